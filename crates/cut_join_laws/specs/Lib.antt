pub mod CutSteps
