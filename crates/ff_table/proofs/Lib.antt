pub mod BornCount
