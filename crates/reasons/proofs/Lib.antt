pub mod WhyCases
