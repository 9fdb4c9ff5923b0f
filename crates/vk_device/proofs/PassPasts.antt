-- A device has the defragmentations that the trace has begun, when an entry has come.
use Rattle.std.proofs.Common.{◌≡◌, inl, inr, ℕ, List, [], ◌∷◌, false, ◌==◌, IsTrue, refl, ap, sym, ◌∙◌, subst, Option, Some, None}
use Rattle.std.specs.Prelude.{option_and_then, if◌then◌else◌}
use Rattle.std.specs.List.{find, list_any}
use Rattle.std.proofs.lemmas.Bool.{cases_eq, ne_eqb}
use Rattle.vk_model.specs.declared.entry.Entry.{Entry}
use Rattle.vk_model.specs.declared.entry.Entry.TheVariants as entry
use Rattle.vk_model.specs.Basics.{holds, among}
use Rattle.vk_model.specs.Trace.Point.{Past, entries}
use Rattle.vk_model.specs.Trace.Objects.{made_by, ended_by, defrag_in}
use Rattle.vk_model.specs.Trace.Order.{host}
use Rattle.vk_model.specs.Rules.Passes.{in_pass, pool_of_defrag}
use Rattle.vk_model.proofs.Lists.Truths.{clash}
use Rattle.vk_memory.specs.MemoryState.{MemoryState}
use Rattle.vma_defrag.specs.State.{DefragState}
use Rattle.vk_backing.specs.Backed as backed
use Rattle.vk_backing.specs.Backed.{Backed, number_in}
use Rattle.vk_backing.specs.Passing as backing
use Rattle.vk_backing.specs.Passing.{Passing, ArePassing}
use Rattle.vk_backing.specs.PassSteps.{Begins, Opens, Closes}
use Rattle.vk_resources.specs.Held.{Held}
use Rattle.vk_resources.specs.Fits.{IsUnused}
use Rattle.vk_resources.specs.Passes.{KeepsPools}
use Rattle.vk_device.specs.Empty.{none_begun}
use Rattle.vk_device.specs.Inner.Clean.{IsClean}
use Rattle.vk_device.specs.Inner.Fits.{is_of_passes}
use Rattle.vk_device.specs.Passes.{IsDefragAs, MatchesPasses}
use Rattle.vk_device.proofs.Clean.{fits_clean}
use Rattle.vk_device.proofs.Unbroken.{BreaksNone, breaks_none}
use Rattle.vk_device.proofs.PassStates.{NoPass, no_pass, paired, pass_state, unbroken_before, pass_stays, pass_begun, pass_ended, defrags_stay, defrag_begun, defrag_others, defrag_ended, undefrag_others}
use Rattle.vk_device.proofs.PassRules.{pool_has_defrag, its_pool, opens_closed}

-- ---- other points, and none

pub same_passes : (past all : Past) (p : Passing) (b : Backed) → entries all ≡ entries past → MatchesPasses past p b → MatchesPasses all p b
same_passes past all p b same m = record {
  defrags = λ i. subst (λ (u : Option ℕ). IsDefragAs b u (backing.defrag_in p i)) (sym (pools i)) (m.defrags i);
  going = λ i is. passes i ∙ m.going i is;
  opened = λ i h. m.opened i (sym (passes i) ∙ h);
}
  where
    pools : (i : ℕ) → pool_of_defrag all i ≡ pool_of_defrag past i
    pools i = ap (λ (xs : List Entry). option_and_then defrag_in (if list_any (λ x. among i (ended_by x)) xs then None else find (λ x. holds (made_by x) (λ j. i == j)) xs)) same

    passes : (i : ℕ) → in_pass all i ≡ in_pass past i
    passes i = rw same refl

pub no_passes : (b : Backed) → MatchesPasses [] none_begun b
no_passes b = record { defrags = λ i. refl; going = λ i is. absurd cc; opened = λ i h. absurd cc }

-- ---- one defragmentation

-- it stays as it is
same_defrag : (past next : Past) (p q : Passing) (b c : Backed) (i : ℕ) → IsDefragAs b (pool_of_defrag past i) (backing.defrag_in p i) → pool_of_defrag next i ≡ pool_of_defrag past i → backing.defrag_in q i ≡ backing.defrag_in p i
    → ((k n : ℕ) → pool_of_defrag past i ≡ Some k → backed.pool_of b k ≡ Some n → backed.pool_of c k ≡ Some n) → IsDefragAs c (pool_of_defrag next i) (backing.defrag_in q i)
same_defrag past next p q b c i was pool defrag stay =
    subst (λ (u : Option ℕ). IsDefragAs c u (backing.defrag_in q i)) (sym pool) (subst (λ (o : Option DefragState). IsDefragAs c (pool_of_defrag past i) o) (sym defrag) (go (pool_of_defrag past i) refl was))
  where
    go : (u : Option ℕ) → pool_of_defrag past i ≡ u → IsDefragAs b u (backing.defrag_in p i) → IsDefragAs c u (backing.defrag_in p i)
    go None e h = h
    go (Some k) e h = (h.0, h.1, stay k h.0.pool e h.2)

same_numbers : (b c : Backed) → c.numbers ≡ b.numbers → (k n : ℕ) → backed.pool_of b k ≡ Some n → backed.pool_of c k ≡ Some n
same_numbers b c same k n is = ap (λ (l : List (ℕ × ℕ)). number_in l k) same ∙ is

-- ---- an entry of no pass

-- it leaves them, where ids keep their pools
pub plain_passes : (e : ℕ) (x : Entry) (past : Past) (s t : Held) (p : Passing) → is_of_passes x ≡ false → IsClean (host e x ∷ past) → MatchesPasses past p s.backed → KeepsPools x s t → MatchesPasses (host e x ∷ past) p t.backed
plain_passes e x past s t p plain clean m keeps = record {
  defrags = λ i. same_defrag past next p p s.backed t.backed i (m.defrags i) (defrags_stay past e x none no.makes no.ends i) refl (λ k n at is. keeps.stay k n is (kept i k at));
  going = λ i is. same i ∙ m.going i is;
  opened = λ i h. m.opened i (sym (same i) ∙ h);
}
  where
    next : Past
    next = host e x ∷ past

    none : BreaksNone past (host e x)
    none = breaks_none past (host e x) clean

    no : NoPass x
    no = no_pass x plain

    same : (i : ℕ) → in_pass next i ≡ in_pass past i
    same i = pass_stays past e x i (rw no.first refl) (rw no.last refl)

    -- no pool is dropped that is defragmented
    kept : (i k : ℕ) → pool_of_defrag past i ≡ Some k → x ≡ entry.DropPool k → ⊥
    kept i k at is = clash (pool_has_defrag past i k at) (pass_state past e (entry.DropPool k) (subst (λ (y : Entry). BreaksNone past (host e y)) is none))

-- ---- a defragmentation begins

pub begun_passes : (e : ℕ) (past : Past) (b : Backed) (p q : Passing) (i pool n k : ℕ) → IsClean (host e (entry.Defrag i pool n k) ∷ past) → MatchesPasses past p b → Begins p q b i pool n k → MatchesPasses (host e (entry.Defrag i pool n k) ∷ past) q b
begun_passes e past b p q i pool n k clean m begun = record {
  defrags = each;
  going = λ j is. same j ∙ m.going j (sym begun.opened ∙ is);
  opened = λ j h. begun.opened ∙ m.opened j (sym (same j) ∙ h);
}
  where
    next : Past
    next = host e (entry.Defrag i pool n k) ∷ past

    unused : IsUnused past i
    unused = (fits_clean next clean).0

    same : (j : ℕ) → in_pass next j ≡ in_pass past j
    same j = pass_stays past e (entry.Defrag i pool n k) j refl refl

    here : IsDefragAs b (Some pool) (backing.defrag_in q i)
    here = (record { pool = begun.number; max_bytes = n; max_moves = k; current = None }, begun.here, begun.named)

    each : (j : ℕ) → IsDefragAs b (pool_of_defrag next j) (backing.defrag_in q j)
    each j = elim (cases_eq j i) [
      | inl is ↦ subst (λ (l : ℕ). IsDefragAs b (pool_of_defrag next l) (backing.defrag_in q l)) (sym is) (subst (λ (u : Option ℕ). IsDefragAs b u (backing.defrag_in q i)) (sym (defrag_begun past e i pool n k unused.unended)) here)
      | inr other ↦ same_defrag past next p q b b j (m.defrags j) (defrag_others past e i pool n k j other) (begun.others j other) (λ l z at is. is)
    ]

-- ---- one ends

pub less_passes : (e : ℕ) (past : Past) (b : Backed) (p q : Passing) (d : ℕ) → MatchesPasses past p b → backing.defrag_in q d ≡ None → ((i : ℕ) → (i ≡ d → ⊥) → backing.defrag_in q i ≡ backing.defrag_in p i) → q.opened ≡ p.opened → MatchesPasses (host e (entry.EndDefrag d) ∷ past) q b
less_passes e past b p q d m gone others opened = record {
  defrags = each;
  going = λ j is. same j ∙ m.going j (sym opened ∙ is);
  opened = λ j h. opened ∙ m.opened j (sym (same j) ∙ h);
}
  where
    next : Past
    next = host e (entry.EndDefrag d) ∷ past

    same : (j : ℕ) → in_pass next j ≡ in_pass past j
    same j = pass_stays past e (entry.EndDefrag d) j refl refl

    each : (j : ℕ) → IsDefragAs b (pool_of_defrag next j) (backing.defrag_in q j)
    each j = elim (cases_eq j d) [
      | inl is ↦ subst (λ (l : ℕ). IsDefragAs b (pool_of_defrag next l) (backing.defrag_in q l)) (sym is) (subst (λ (u : Option ℕ). IsDefragAs b u (backing.defrag_in q d)) (sym (defrag_ended past e d)) gone)
      | inr other ↦ same_defrag past next p q b b j (m.defrags j) (undefrag_others past e d j other) (others j other) (λ l z at is. is)
    ]

-- ---- passes

-- the defragmentation whose pass begins or ends is of its pool still
turned_defrag : (past next : Past) (b : Backed) (p q : Passing) (c : Backed) (d : ℕ) (was now : DefragState) → MatchesPasses past p b → ((i : ℕ) → pool_of_defrag next i ≡ pool_of_defrag past i) → backing.defrag_in p d ≡ Some was → backing.defrag_in q d ≡ Some now → now.pool ≡ was.pool
    → ((i : ℕ) → (i ≡ d → ⊥) → backing.defrag_in q i ≡ backing.defrag_in p i) → c.numbers ≡ b.numbers → (i : ℕ) → IsDefragAs c (pool_of_defrag next i) (backing.defrag_in q i)
turned_defrag past next b p q c d was now m pools there here pool others numbers i = elim (cases_eq i d) [
  | inl is ↦ subst (λ (l : ℕ). IsDefragAs c (pool_of_defrag next l) (backing.defrag_in q l)) (sym is) (let its = its_pool past p b m d was there in
      subst (λ (u : Option ℕ). IsDefragAs c u (backing.defrag_in q d)) (sym (pools d ∙ its.1)) (now, here, same_numbers b c numbers its.0 was.pool its.2 ∙ ap (λ (z : ℕ). Some z) (sym pool)))
  | inr other ↦ same_defrag past next p q b c i (m.defrags i) (pools i) (others i other) (λ k n at is. same_numbers b c numbers k n is)
]

-- a pass begins, where none is open
pub opened_passes : (e : ℕ) (past : Past) (b c : Backed) (p q : Passing) (d : ℕ) → IsClean (host e (entry.Pass d) ∷ past) → ArePassing p b → MatchesPasses past p b → Opens p q b c d → MatchesPasses (host e (entry.Pass d) ∷ past) q c
opened_passes e past b c p q d clean are m opens = record {
  defrags = turned_defrag past next b p q c d opens.was opens.now m (defrags_stay past e x none refl (λ k is. cc)) opens.there opens.here (ap (λ (z : DefragState). z.pool) opens.begun.state) opens.others opens.keeps.numbers;
  going = λ i is. (let same : d ≡ i = (let both : Some d ≡ Some i = sym opens.opened ∙ is in cc) in subst (λ (k : ℕ). IsTrue (in_pass next k)) same now);
  opened = λ i h. elim (cases_eq i d) [ inl is ↦ opens.opened ∙ ap (λ (k : ℕ). Some k) (sym is) | inr other ↦ absurd (only i other h) ];
}
  where
    x : Entry
    x = entry.Pass d

    next : Past
    next = host e (entry.Pass d) ∷ past

    none : BreaksNone past (host e x)
    none = breaks_none past (host e x) clean

    now : IsTrue (in_pass next d)
    now = pass_begun past e d (paired past d (unbroken_before past (host e x) clean))

    only : (i : ℕ) → (i ≡ d → ⊥) → IsTrue (in_pass next i) → ⊥
    only i other h =
        let was : p.opened ≡ Some i = m.opened i (sym (pass_stays past e x i (ne_eqb d i (λ same. other (sym same))) refl) ∙ h) in
        let both : None ≡ Some i = sym (opens_closed past p b m e d none are) ∙ was in
        cc

-- the open pass ends
pub closed_passes : (e : ℕ) (past : Past) (b c : Backed) (p q : Passing) (d : ℕ) (kept lost : List ℕ) (old new : MemoryState) → IsClean (host e (entry.EndPass d kept lost) ∷ past) → MatchesPasses past p b → Closes p q b c old new d kept lost → MatchesPasses (host e (entry.EndPass d kept lost) ∷ past) q c
closed_passes e past b c p q d kept lost old new clean m closes = record {
  defrags = turned_defrag past next b p q c d closes.was (record closes.was { current = None }) m (defrags_stay past e x none refl (λ k is. cc)) closes.there closes.here refl closes.others closes.numbers;
  going = λ i is. absurd (let both : ◌≡◌ {A = Option ℕ} None (Some i) = sym closes.none_open ∙ is in cc);
  opened = λ i h. absurd (never i h);
}
  where
    x : Entry
    x = entry.EndPass d kept lost

    next : Past
    next = host e (entry.EndPass d kept lost) ∷ past

    none : BreaksNone past (host e x)
    none = breaks_none past (host e x) clean

    never : (i : ℕ) → IsTrue (in_pass next i) → ⊥
    never i h = elim (cases_eq i d) [
      | inl is ↦ pass_ended past e d kept lost (paired past d (unbroken_before past (host e x) clean)) (subst (λ (k : ℕ). IsTrue (in_pass next k)) is h)
      | inr other ↦ (
          let was : p.opened ≡ Some i = m.opened i (sym (pass_stays past e x i refl (ne_eqb d i (λ same. other (sym same)))) ∙ h) in
          let both : Some d ≡ Some i = sym closes.opened ∙ was in
          let same : d ≡ i = cc in
          other (sym same))
    ]
