-- A word with a bit has the highest one, and one without leaves the words below it.
use Rattle.std.specs.Prelude.{◌≡◌, ℕ, suc, ◌-◌, ◌*◌, ◌^◌, ◌<◌, get_or}
use Rattle.std.specs.Int.Bits.{bit_or}
use Rattle.std.proofs.Common.{Fits, w64, sym, subst, rules, arith}
use Rattle.masks.specs.Mask.{mask}
use Rattle.masks.specs.MaskLaws.{Small, or_below, word_none, word_highest, none_top}
use Rattle.bitlaws.proofs.Highest.{highest_top}
use Rattle.paulis.proofs.support.highest_bit.Goals as goal
use Rattle.paulis.proofs.support.highest_bit.Goals.{Start, After-highest_bit}

small_x : (c : Start) → Small c.args.x
small_x c = λ i. (let f : Fits w64 (get_or c.args.x i 0) = search rules in f.fits)

small_z : (c : Start) → Small c.args.z
small_z c = λ i. (let f : Fits w64 (get_or c.args.z i 0) = search rules in f.fits)

pub loop-word-init : goal.loop-word-init
loop-word-init c = or_below c.args.x c.args.z (small_x (goal.at.loop-word-init c).Start) (small_z (goal.at.loop-word-init c).Start)

below : (c : After-highest_bit) → bit_or (mask c.args.x) (mask c.args.z) < 2 ^ (suc (c.loop-word.word - 1) * 64)
below c =
    let place : c.loop-word.word * 64 ≡ suc (c.loop-word.word - 1) * 64 = omega arith in
    subst (λ (n : ℕ). bit_or (mask c.args.x) (mask c.args.z) < 2 ^ n) place c.loop-word.invariant

pub overflow_add-result : goal.overflow_add-result
overflow_add-result c = omega (arith, (highest_top 64 _ _ (sym c.in-Some.ensures)).inside)

pub returns-in-Some : goal.returns-in-Some
returns-in-Some c =
    let s = (goal.at.returns-in-Some c).Start in
    let seen = (goal.at.returns-in-Some c).After-highest_bit in
    sym (word_highest c.args.x c.args.z (small_x s) (small_z s) (c.loop-word.word - 1) (omega arith) (below seen) c.in-Some.bit (sym c.in-Some.ensures))

pub loop-word-preserved : goal.loop-word-preserved
loop-word-preserved c =
    let s = (goal.at.loop-word-preserved c).Start in
    let seen = (goal.at.loop-word-preserved c).After-highest_bit in
    word_none c.args.x c.args.z (small_x s) (small_z s) (c.loop-word.word - 1) (omega arith) (below seen) (sym c.in_default.ensures)

pub returns : goal.returns
returns c =
    let s = (goal.at.returns c).Start in
    let last : c.loop-word.word ≡ 0 = omega arith in
    sym (none_top c.args.x c.args.z (small_x s) (small_z s) (subst (λ (n : ℕ). bit_or (mask c.args.x) (mask c.args.z) < 2 ^ (n * 64)) last c.loop-word.invariant))
