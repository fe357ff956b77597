pub mod Bridge
pub mod Demand3
pub mod Office
pub mod KeysBeside
pub mod CallingKeys
