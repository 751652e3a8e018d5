mod Cases
mod Computed
