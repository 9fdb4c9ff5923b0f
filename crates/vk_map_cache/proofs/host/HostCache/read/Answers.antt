use Rattle.std.proofs.Common.{◌≡◌, ◌≤◌, ◌+◌, ℕ, List, [], length, get_or, ap, ◌∙◌, arith, Option}
use Rattle.vk_model.specs.Run.Caches.{Held, value_through}
use Rattle.vk_map_cache.specs.Holdings.{Holdings, held_in, held_at}
use Rattle.vk_map_cache.proofs.HoldingLemmas.{get_or-part}
use Rattle.vk_map_cache.proofs.host.HostCache.read.Goals as goal

pub returns-in-Some : goal.returns-in-Some
returns-in-Some c = λ k lt.
    let memory = c.args.memory in
    let at = c.args.at in
    let region = c.args.region.now in
    let n = length c.args.out.now in
    let here : memory ≤ memory = omega arith in
    let object : c.in-Some.object.now ≡ get_or c.args.self.now memory [] = c.in-Some.ensures.lookup.4 here [] ∙ ap (λ (h : Holdings). get_or h memory []) (c.as_slice.ensures.value ∙ c.self.view_is) in
    let byte : get_or c.read.new.out k 0 ≡ get_or region (at + k) 0 = ap (λ (l : List ℕ). get_or l k 0) c.read.ensures ∙ get_or-part 0 region at n k lt in
    c.read-in-Some.ensures k (omega (arith, lt, c.read.auto.out))
    ∙ ap (λ (o : List (Option Held)). value_through (held_in o (at + k)) (get_or c.read.new.out k 0)) object
    ∙ ap (λ (v : ℕ). value_through (held_at c.args.self.now memory (at + k)) v) byte
