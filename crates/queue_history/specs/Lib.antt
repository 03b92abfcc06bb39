-- `Accounted` is what one history of a queue accounts for, and `AccountedRows` what that comes to where one party pushes and one pops.
-- `Concluded` is what clients conclude whose calls were answered, and `Told` how a look at a witness leads there.
pub mod Accounted
pub mod Concluded
pub mod AccountedRows
pub mod Told
