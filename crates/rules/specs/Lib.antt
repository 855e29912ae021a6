-- What the row call's promise rests on, W1 to W8: Walk (skip, indicator, the rest of the row), Extent (how many bytes), Meaning (what they mean, which are
-- external); H1 to H7: Row (places, texts, blanks, refusals), Value. Conversions ties them to the conversions of single values. The others are for theorems:
-- OwnEnd (W9), Demand3 and Exceptions (D3), Sorts (W10), Accepted, Shown, ShortColumn, LooksAt (N2d), Releases (N10d); Waiting, WaitingCall, WaitingRows and Fewest (N14).
pub mod Extent
pub mod OwnEnd
pub mod Meaning
pub mod Walk
pub mod Value
pub mod Row
pub mod Conversions
pub mod Demand3
pub mod Sorts
pub mod Accepted
pub mod Exceptions
pub mod Shown
pub mod ShortColumn
pub mod LooksAt
pub mod Releases
pub mod Waiting
pub mod WaitingCall
pub mod WaitingRows
pub mod Fewest
