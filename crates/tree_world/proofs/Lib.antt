pub mod Orders
mod Bodies
mod Delivers
mod Placed
mod Loops
mod Brings
mod RowCounts
mod Minions
