mod Cases
mod FindCases
