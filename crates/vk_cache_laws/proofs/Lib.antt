pub mod NextReads
mod CachedReads
mod Told
mod InPlaceSteps
mod HostTold
mod PiecesTold
mod EntriesTold
mod LagRuns
mod BareBytes
mod CachedPicking
mod SamePicks
mod Writers
mod LateSteps
mod LateKept
mod WritesStay
