pub mod RosterEvents
pub mod Slotting
pub mod Engines
mod FirstReading
pub mod AskedRows
pub mod KeptNext
pub mod Beginning
pub mod Entering
mod Renewing
mod RowPairs
mod TimesTold
mod SinceTold
