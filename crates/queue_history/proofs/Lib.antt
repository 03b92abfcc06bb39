pub mod CallAccounts
pub mod PartyAccounts
pub mod AcceptedCount
pub mod Accounted
pub mod NothingElse
pub mod Concluded
pub mod AccountedRows
pub mod Told
