mod StretchLemmas
mod Behind
mod WritingBack
mod Subresources
mod Walking
mod CatchingUp
mod Freeing
