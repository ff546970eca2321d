mod Failures
mod ItemsFit
mod SumAccepted
mod SumNeed
