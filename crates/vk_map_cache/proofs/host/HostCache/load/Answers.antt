use Rattle.std.proofs.Common.{◌≡◌, ◌<◌, ◌≤◌, ◌+◌, ◌-◌, ◌/◌, ◌==◌, ◌&&◌, ◌⊎◌, ℕ, Bool, List, nat_le, nat_lt, if◌then◌else◌, length, get_or, ap, subst, sym, ◌∙◌, refl, arith, inl, inr}
use Rattle.std.proofs.lemmas.List.{length-take-le}
use Rattle.vk_model.specs.Run.Caches.{loaded}
use Rattle.vk_map_cache.specs.Holdings.{Holdings, IsCell, held_in, held_at, is_in_atom, only_where}
use Rattle.vk_map_cache.proofs.CellLemmas.{same_cell, changed_if, kept_unless}
use Rattle.vk_map_cache.proofs.HoldingLemmas.{in_range_or}
use Rattle.vk_heap.proofs.SpliceLemmas.{get_or-piece}
use Rattle.vk_map_cache.proofs.HostLemmas.{one_object, object_read, ended, region-loaded}
use Rattle.vk_map_cache.proofs.host.HostCache.load.Goals as goal

pub returns-clause-ok : goal.returns-clause-ok
returns-clause-ok c =
    let memory = c.args.memory in
    let cache = c.self.inside.objects.items in
    let object = c.index_mut.result.now in
    let region = c.args.region.now in
    let low = c.atom_at-span.result.low in
    let high = c.atom_at-span.result.high in
    let n = high - low in
    let made = c.in_ok-make_room.ensures in
    let named : memory < length cache = omega (arith, made.named, ap (λ (h : Holdings). length h) c.self.view_is) in
    let part : length c.read.new.out ≡ n = c.read.auto.out ∙ length-take-le n _ (omega (arith, c.atom_at-span.ensures.size)) in
    one_object (only_where (is_in_atom (length region) c.args.atom) (loaded 0)) memory c.args.self.now cache object c.change.new.self region region
    (λ number k. ap (λ (h : Holdings). held_at h number k) c.self.view_is ∙ made.same number k) named (object_read cache memory object named c.index_mut.ensures.value) refl
    (λ k cell was.
    let P : Bool → Type 0 = λ t. IsCell (held_in c.change.new.self k) (get_or region k 0) (if t then loaded 0 cell else cell) in
    subst P (ended (λ j. j / 64 == c.args.atom) low high (length region) k (omega (arith, c.atom_at-span.ensures.end, c.size-size.ensures)) (λ lt. c.atom_at-span.ensures.bytes k (omega (arith, lt, c.size-size.ensures)))) (elim (in_range_or low high k) [
      | inl (is, ge, lt) ↦ changed_if (loaded 0) cell (nat_le low k && nat_lt k high) is
          (record {
            held = (c.change.ensures.inside k cell ge (omega (arith, ge, lt, part))
                (same_cell refl (sym (ap (λ (l : List ℕ). get_or l (k - low) 0) c.read.ensures ∙ get_or-piece region low _ k ge (omega (arith, ge, lt, part, c.read.auto.out)))) was)).held;
            region = region-loaded cell ∙ was.region;
          })
      | inr (is, out) ↦ kept_unless (loaded 0) cell (nat_le low k && nat_lt k high) is (same_cell (sym (c.change.ensures.outside k (out_of low high (length c.read.new.out) k c.atom_at-span.ensures.order part out))) refl was)
    ]))
  where
    out_of : (low high len k : ℕ) → low ≤ high → len ≡ high - low → (k < low) ⊎ (high ≤ k) → (k < low) ⊎ (low + len ≤ k)
    out_of low high len k order is (inl lt) = inl lt
    out_of low high len k order is (inr le) = inr (omega (arith, order, is, le))
