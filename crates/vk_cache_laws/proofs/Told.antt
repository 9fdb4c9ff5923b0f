-- What caches do with a byte, told in place.
use Rattle.std.proofs.Common.{◌≡◌, ℕ, Bool, true, false, ◌&&◌, Option, Some, None, refl, ap, sym, ◌∙◌, subst, arith}
use Rattle.std.specs.Prelude.{◌==◌, if◌then◌else◌}
use Rattle.std.proofs.lemmas.Bool.{eqb-true, eq-eqb}
use Rattle.vk_model.specs.Run.Caches.{Held, Clean, Dirty, Cell, queue_agent, with_held, written_back_if, written_back, dropped_if, dropped, loaded_if, loaded}
use Rattle.vk_laws.proofs.CachedRunning.Touches.{held_there, held_elsewhere}
use Rattle.vk_cache_laws.specs.InPlace.{Behind, IsAlikeHeld, IsTold, caught_up}

-- ---- what is alike held

pub alike_same : (h : Option Held) → IsAlikeHeld h h
alike_same h = (((λ e. e), (λ e. e)), λ v. ((λ e. e), (λ e. e)))

pub alike_after : {a b d : Option Held} → IsAlikeHeld a b → d ≡ b → IsAlikeHeld a d
alike_after {a} {b} {d} i e = subst (λ (h : Option Held). IsAlikeHeld a h) (sym e) i

pub alike_copies : (u v : ℕ) → IsAlikeHeld (Some (Clean u)) (Some (Clean v))
alike_copies u v = (((λ e. absurd cc), (λ e. absurd cc)), λ w. ((λ e. absurd cc), (λ e. absurd cc)))

-- ---- queues' caches

pub apart : (q : ℕ) → 0 ≡ queue_agent q → ⊥
apart q e = omega (arith, e)

pub one_queue : (p q : ℕ) → queue_agent p ≡ queue_agent q → p ≡ q
one_queue p q e = omega (arith, e)

module _ {value : ℕ} {host : Option Held} {behind : Option Behind} {cell : Cell} (i : IsTold value host behind cell) where
  -- where memory isn't behind, no queue's cache holds the byte dirty
  pub none_dirty : behind ≡ None → (q v : ℕ) → cell.held (queue_agent q) ≡ Some (Dirty v) → ⊥
  none_dirty none q v held = let d = i.dirty q v held in let nobody : Option Behind = None in let no_one : nobody ≡ Some (record { queue = q; value = d.1 }) = sym none ∙ d.2 in cc

  -- a change of what isn't dirty in one queue's cache
  pub told_held : (q : ℕ) (h : Option Held) → ((v : ℕ) → h ≡ Some (Dirty v) → ⊥) → ((v : ℕ) → cell.held (queue_agent q) ≡ Some (Dirty v) → ⊥) → IsTold value host behind (with_held (queue_agent q) h cell)
  told_held q h clean was = record {
    region = i.region;
    dirty = λ p v e. at_queue p v (p == q) refl e;
    held = λ b is. held_elsewhere (queue_agent q) h cell (queue_agent b.queue) (λ same. was value (subst (λ (a : ℕ). cell.held a ≡ Some (Dirty value)) same (i.held b is))) ∙ i.held b is;
    alike = alike_after i.alike (held_elsewhere (queue_agent q) h cell 0 (apart q));
  }
    where
      at_queue : (p v : ℕ) (same : Bool) → (p == q) ≡ same → (with_held (queue_agent q) h cell).held (queue_agent p) ≡ Some (Dirty v) → (v ≡ value) × (u : ℕ) × (behind ≡ Some (record { queue = p; value = u }))
      at_queue p v true same e = let one : p ≡ q = eqb-true p q same in absurd (clean v (sym (held_there (queue_agent q) h cell) ∙ subst (λ (k : ℕ). (with_held (queue_agent q) h cell).held (queue_agent k) ≡ Some (Dirty v)) one e))
      at_queue p v false same e = i.dirty p v (sym (held_elsewhere (queue_agent q) h cell (queue_agent p) (λ a. differ (one_queue p q a))) ∙ e)
        where
          differ : p ≡ q → ⊥
          differ one = let no : true ≡ false = sym (eq-eqb p q one) ∙ same in cc

  pub told_drop : (q : ℕ) → IsTold value host behind (dropped (queue_agent q) cell)
  told_drop q = go (cell.held (queue_agent q)) refl
    where
      go : (h : Option Held) → cell.held (queue_agent q) ≡ h → IsTold value host behind (dropped_if (queue_agent q) h cell)
      go None e = i
      go (Some (Dirty u)) e = i
      go (Some (Clean u)) e = told_held q None (λ v no. absurd cc) (λ v d. let no : Some (Clean u) ≡ Some (Dirty v) = sym e ∙ d in cc)

  pub told_load : (q : ℕ) → IsTold value host behind (loaded (queue_agent q) cell)
  told_load q = go (cell.held (queue_agent q)) refl
    where
      go : (h : Option Held) → cell.held (queue_agent q) ≡ h → IsTold value host behind (loaded_if (queue_agent q) h cell)
      go (Some u) e = i
      go None e = told_held q (Some (Clean cell.region)) (λ v no. absurd cc) (λ v d. let no : None ≡ Some (Dirty v) = sym e ∙ d in cc)

-- memory that isn't behind of a queue isn't behind of another
settled : {value : ℕ} {host : Option Held} {cell : Cell} (b : Behind) → IsTold value host (Some b) cell → IsTold value host None (record (with_held (queue_agent b.queue) (Some (Clean value)) cell) { region = value })
settled {value} {host} {cell} b i = record {
  region = refl;
  dirty = λ p v e. absurd (at_queue p v (p == b.queue) refl e);
  held = λ d no. absurd cc;
  alike = alike_after i.alike (held_elsewhere (queue_agent b.queue) (Some (Clean value)) cell 0 (apart b.queue));
}
  where
    at_queue : (p v : ℕ) (same : Bool) → (p == b.queue) ≡ same → (with_held (queue_agent b.queue) (Some (Clean value)) cell).held (queue_agent p) ≡ Some (Dirty v) → ⊥
    at_queue p v true same e =
        let one : p ≡ b.queue = eqb-true p b.queue same in
        let no : Some (Clean value) ≡ Some (Dirty v) = sym (held_there (queue_agent b.queue) (Some (Clean value)) cell) ∙ subst (λ (k : ℕ). (with_held (queue_agent b.queue) (Some (Clean value)) cell).held (queue_agent k) ≡ Some (Dirty v)) one e in cc
    at_queue p v false same e =
        let was : cell.held (queue_agent p) ≡ Some (Dirty v) = sym (held_elsewhere (queue_agent b.queue) (Some (Clean value)) cell (queue_agent p) (λ a. differ (one_queue p b.queue a))) ∙ e in
        let d = i.dirty p v was in
        let same_one : Some b ≡ Some (record { queue = p; value = d.1 }) = d.2 in
        differ (let it : b ≡ record { queue = p; value = d.1 } = cc in sym (ap (λ (x : Behind). x.queue) it))
      where
        differ : p ≡ b.queue → ⊥
        differ one = let no : true ≡ false = sym (eq-eqb p b.queue one) ∙ same in cc

pub told_back : {value : ℕ} {host : Option Held} (behind : Option Behind) {cell : Cell} → IsTold value host behind cell → (q : ℕ) → IsTold value host (caught_up q true behind) (written_back (queue_agent q) cell)
told_back {value} {host} None {cell} i q = go (cell.held (queue_agent q)) refl
  where
    go : (h : Option Held) → cell.held (queue_agent q) ≡ h → IsTold value host None (written_back_if (queue_agent q) h cell)
    go None e = i
    go (Some (Clean u)) e = i
    go (Some (Dirty u)) e = absurd (none_dirty i refl q u e)
told_back {value} {host} (Some b) {cell} i q = go (b.queue == q) refl
  where
    other : (h : Option Held) → cell.held (queue_agent q) ≡ h → (b.queue == q) ≡ false → IsTold value host (Some b) (written_back_if (queue_agent q) h cell)
    other None e differ = i
    other (Some (Clean u)) e differ = i
    other (Some (Dirty u)) e differ =
        let d = i.dirty q u e in
        let same : Some b ≡ Some (record { queue = q; value = d.1 }) = d.2 in
        let it : b ≡ record { queue = q; value = d.1 } = cc in
        let clash : true ≡ false = sym (eq-eqb b.queue q (ap (λ (x : Behind). x.queue) it)) ∙ differ in absurd cc

    go : (same : Bool) → (b.queue == q) ≡ same → IsTold value host (if true && same then None else Some b) (written_back (queue_agent q) cell)
    go true same =
        let one : b.queue ≡ q = eqb-true b.queue q same in
        let held : cell.held (queue_agent q) ≡ Some (Dirty value) = subst (λ (k : ℕ). cell.held (queue_agent k) ≡ Some (Dirty value)) one (i.held b refl) in
        subst (λ (c : Cell). IsTold value host None c)
        (ap (λ (k : ℕ). record (with_held (queue_agent k) (Some (Clean value)) cell) { region = value }) one ∙ ap (λ (h : Option Held). written_back_if (queue_agent q) h cell) (sym held))
        (settled b i)
    go false same = other (cell.held (queue_agent q)) refl same
