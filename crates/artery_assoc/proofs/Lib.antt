pub mod ForEver
