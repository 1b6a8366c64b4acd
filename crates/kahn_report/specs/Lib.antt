pub mod SampleText
pub mod inner
