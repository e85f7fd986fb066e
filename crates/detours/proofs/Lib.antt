mod WorkLaws
mod OfferForms
mod LiveSteps
mod JudgeCases
mod GoalCases
mod SearchCases
mod GoalSteps
mod FindCases
