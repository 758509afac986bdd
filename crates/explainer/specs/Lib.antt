pub mod Growth
pub mod Laws
pub mod Missing
pub mod Sets
pub mod Wanted
