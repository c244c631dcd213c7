-- Lines byte for byte, by computation.
use Rattle.std.specs.Prelude.{◌≡◌, refl, [], ◌∷◌, ℕ, Float}
use Rattle.std.specs.Int.Count.{ones}
use Rattle.bitlaws.specs.Digit.{digit}
use Rattle.bitlaws.specs.Parity.{overlap, parity}
use Rattle.paulilaws.specs.Pauli.{Pauli, anti, coefficient, ys}
use Rattle.paulilaws.specs.AntiMask.{anti_mask}
use Rattle.paulilaws.specs.Letter.{letter_at}
use Rattle.paulitext.specs.Text.{prefix, letters_from, body, shown}
use Rattle.amplitudelaws.specs.Step.Step.{rotation, promotion, projection}
use Rattle.framelaws.specs.Reporting.{pair_report, step_report}
use Rattle.lines.specs.Lines.{decimal_up_to, decimal}
use Rattle.reports.specs.Input.{is_digit, grown, number_from, number}
use Rattle.reports.specs.Text.{qubit_text, qubits_from, qubits_text, flag_text, kind_text, step_text, frame_text, step_line, end_line, refusal_at_line}

-- -XYZ, i*ZIX, i*ZII, ZZI and IIX
abbrev minusXYZ : Pauli
minusXYZ = record { n = 3; k = 3; x = 3; z = 6 }

abbrev iZIX : Pauli
iZIX = record { n = 3; k = 1; x = 4; z = 1 }

abbrev iZII : Pauli
iZII = record { n = 3; k = 1; x = 0; z = 1 }

abbrev ZZI : Pauli
ZZI = record { n = 3; k = 0; x = 0; z = 3 }

abbrev IIX : Pauli
IIX = record { n = 3; k = 0; x = 4; z = 0 }

-- step 3 rotation -XYZ frame i*ZIX kept qubits 0 2
even_rotation : (sign : ℕ) (c s : Float) → step_line 3 (record { frame = iZIX; step = rotation minusXYZ sign c s })
    ≡ 115 ∷ 116 ∷ 101 ∷ 112 ∷ 32 ∷ 51 ∷ 32
    ∷ 114 ∷ 111 ∷ 116 ∷ 97 ∷ 116 ∷ 105 ∷ 111 ∷ 110 ∷ 32 ∷ 45 ∷ 88 ∷ 89 ∷ 90
    ∷ 32 ∷ 102 ∷ 114 ∷ 97 ∷ 109 ∷ 101 ∷ 32 ∷ 105 ∷ 42 ∷ 90 ∷ 73 ∷ 88
    ∷ 32 ∷ 107 ∷ 101 ∷ 112 ∷ 116 ∷ 32 ∷ 113 ∷ 117 ∷ 98 ∷ 105 ∷ 116 ∷ 115 ∷ 32 ∷ 48 ∷ 32 ∷ 50 ∷ 10 ∷ []
unfolding step_line step_text kind_text frame_text flag_text qubits_text qubits_from qubit_text shown prefix body letters_from letter_at coefficient ys decimal decimal_up_to step_report pair_report anti anti_mask overlap parity ones digit
even_rotation sign c s = refl

-- step 12 rotation -XYZ frame i*ZII changed qubits 0
odd_rotation : (sign : ℕ) (c s : Float) → step_line 12 (record { frame = iZII; step = rotation minusXYZ sign c s })
    ≡ 115 ∷ 116 ∷ 101 ∷ 112 ∷ 32 ∷ 49 ∷ 50 ∷ 32
    ∷ 114 ∷ 111 ∷ 116 ∷ 97 ∷ 116 ∷ 105 ∷ 111 ∷ 110 ∷ 32 ∷ 45 ∷ 88 ∷ 89 ∷ 90
    ∷ 32 ∷ 102 ∷ 114 ∷ 97 ∷ 109 ∷ 101 ∷ 32 ∷ 105 ∷ 42 ∷ 90 ∷ 73 ∷ 73
    ∷ 32 ∷ 99 ∷ 104 ∷ 97 ∷ 110 ∷ 103 ∷ 101 ∷ 100 ∷ 32 ∷ 113 ∷ 117 ∷ 98 ∷ 105 ∷ 116 ∷ 115 ∷ 32 ∷ 48 ∷ 10 ∷ []
unfolding step_line step_text kind_text frame_text flag_text qubits_text qubits_from qubit_text shown prefix body letters_from letter_at coefficient ys decimal decimal_up_to step_report pair_report anti anti_mask overlap parity ones digit
odd_rotation sign c s = refl

-- step 4 projection ZZI frame IIX kept
apart : (p v : ℕ) (invnorm : Float) → step_line 4 (record { frame = IIX; step = projection ZZI p v invnorm })
    ≡ 115 ∷ 116 ∷ 101 ∷ 112 ∷ 32 ∷ 52 ∷ 32
    ∷ 112 ∷ 114 ∷ 111 ∷ 106 ∷ 101 ∷ 99 ∷ 116 ∷ 105 ∷ 111 ∷ 110 ∷ 32 ∷ 90 ∷ 90 ∷ 73
    ∷ 32 ∷ 102 ∷ 114 ∷ 97 ∷ 109 ∷ 101 ∷ 32 ∷ 73 ∷ 73 ∷ 88
    ∷ 32 ∷ 107 ∷ 101 ∷ 112 ∷ 116 ∷ 10 ∷ []
unfolding step_line step_text kind_text frame_text flag_text qubits_text qubits_from qubit_text shown prefix body letters_from letter_at coefficient ys decimal decimal_up_to step_report pair_report anti anti_mask overlap parity ones digit
apart p v invnorm = refl

-- step 5 promotion frame IIX no flag
promoted : (c q : Float) → step_line 5 (record { frame = IIX; step = promotion c q })
    ≡ 115 ∷ 116 ∷ 101 ∷ 112 ∷ 32 ∷ 53 ∷ 32
    ∷ 112 ∷ 114 ∷ 111 ∷ 109 ∷ 111 ∷ 116 ∷ 105 ∷ 111 ∷ 110
    ∷ 32 ∷ 102 ∷ 114 ∷ 97 ∷ 109 ∷ 101 ∷ 32 ∷ 73 ∷ 73 ∷ 88
    ∷ 32 ∷ 110 ∷ 111 ∷ 32 ∷ 102 ∷ 108 ∷ 97 ∷ 103 ∷ 10 ∷ []
unfolding step_line step_text kind_text frame_text flag_text qubits_text qubits_from qubit_text shown prefix body letters_from letter_at coefficient ys decimal decimal_up_to step_report pair_report anti anti_mask overlap parity ones digit
promoted c q = refl

-- end frame IIX
ended : end_line IIX
    ≡ 101 ∷ 110 ∷ 100 ∷ 32 ∷ 102 ∷ 114 ∷ 97 ∷ 109 ∷ 101 ∷ 32 ∷ 73 ∷ 73 ∷ 88 ∷ 10 ∷ []
unfolding end_line frame_text shown prefix body letters_from letter_at coefficient ys ones digit
ended = refl

-- refused 2 at 13
misread : refusal_at_line 2 13
    ≡ 114 ∷ 101 ∷ 102 ∷ 117 ∷ 115 ∷ 101 ∷ 100 ∷ 32 ∷ 50 ∷ 32 ∷ 97 ∷ 116 ∷ 32 ∷ 49 ∷ 51 ∷ 10 ∷ []
unfolding refusal_at_line decimal decimal_up_to
misread = refl

-- ---- numbers

-- 0040
with_zeros : number (48 ∷ 48 ∷ 52 ∷ 48 ∷ []) ≡ 40
unfolding number number_from is_digit grown
with_zeros = refl

-- 99999999
too_large : number (57 ∷ 57 ∷ 57 ∷ 57 ∷ 57 ∷ 57 ∷ 57 ∷ 57 ∷ []) ≡ 65536
unfolding number number_from is_digit grown
too_large = refl

-- 4x
no_number : number (52 ∷ 120 ∷ []) ≡ 65536
unfolding number number_from is_digit grown
no_number = refl

-- qubits of two digits: ` qubits 0 9 10 11`
two_digits : qubits_text 12 0xe01 ≡ 32 ∷ 113 ∷ 117 ∷ 98 ∷ 105 ∷ 116 ∷ 115 ∷ 32 ∷ 48 ∷ 32 ∷ 57 ∷ 32 ∷ 49 ∷ 48 ∷ 32 ∷ 49 ∷ 49 ∷ []
unfolding qubits_text qubits_from qubit_text decimal decimal_up_to digit
two_digits = refl
