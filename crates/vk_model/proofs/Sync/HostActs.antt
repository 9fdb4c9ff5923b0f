-- Which acts are the host's, and what needs no nodes to be available. Other crates cite it.
use Rattle.std.proofs.Common.{◌≡◌, List, [], Bool, true, false, refl}
use Rattle.vk_model.specs.World.Bytes.{Byte}
use Rattle.vk_model.specs.Sync.Node.{Node, Act, Hosts, Waits, Signals, Runs, Depends}
use Rattle.vk_model.specs.Sync.Edge.{is_host, is_submit}
use Rattle.vk_model.specs.Sync.Seen.{makes_writes_available, flushes, invalidates}
use Rattle.vk_model.proofs.Lists.Truths.{no}

pub submit_host : (a : Act) → is_submit a ≡ true → is_host a ≡ true
submit_host (Hosts x) h = refl
submit_host (Waits s) h = no h
submit_host (Signals s) h = no h
submit_host (Runs c) h = no h
submit_host (Depends r e) h = no h

pub flush_host : (a : Act) (b : Byte) → flushes a b ≡ true → is_host a ≡ true
flush_host (Hosts x) b h = refl
flush_host (Waits s) b h = no h
flush_host (Signals s) b h = no h
flush_host (Runs c) b h = no h
flush_host (Depends r e) b h = no h

pub invalidation_host : (a : Act) (b : Byte) → invalidates a b ≡ true → is_host a ≡ true
invalidation_host (Hosts x) b h = refl
invalidation_host (Waits s) b h = no h
invalidation_host (Signals s) b h = no h
invalidation_host (Runs c) b h = no h
invalidation_host (Depends r e) b h = no h

-- neither the nodes nor the cache count
pub same_available : (cached : Byte → Bool) (ns : List Node) (p : Node) (b : Byte) (a : Act) → makes_writes_available (λ c. false) [] p b a ≡ makes_writes_available cached ns p b a
same_available cached ns p b (Depends r e) = refl
same_available cached ns p b (Signals s) = refl
same_available cached ns p b (Hosts x) = refl
same_available cached ns p b (Waits s) = refl
same_available cached ns p b (Runs c) = refl
