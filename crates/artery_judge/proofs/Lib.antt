pub mod Tables
pub mod KeyTests
pub mod Lists
pub mod Standing
pub mod Verdicts
pub mod UnderWay
