pub mod AllSeen
