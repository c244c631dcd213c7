pub mod DefaultPivot
