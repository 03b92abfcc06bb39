-- `Lists` says what lies behind a list's lock, `Channel` what a channel and its seats know, `Cells` what the cells of a call know, and `Words`
-- those of a question. `Calls` is what calls say of their party, `LastHandle` what is so where no handle lives, `Look` what a look tells, and `Over` what it
-- tells at the end of a channel.
pub mod Lists
pub mod Channel
pub mod Cells
pub mod Words
pub mod Calls
pub mod LastHandle
pub mod Look
pub mod Over
