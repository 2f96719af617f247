-- The generated ids, and the page of their counter.
pub mod CounterPage
pub mod DurableCounter
pub mod RisingCounter
pub mod GeneratedIds
pub mod GivenIds
pub mod IdSteps
pub mod IdRuns
