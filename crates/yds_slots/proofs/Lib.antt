pub mod Grains
pub mod WorkParts
pub mod Receipts
pub mod SlotOrder
