-- What is mapped after a point.
use Rattle.std.proofs.Common.{◌≡◌, ◌⊎◌, inl, inr, ◌+◌, ◌<◌, ◌≤◌, ℕ, [], ◌∷◌, Bool, true, false, ◌==◌, cond, refl, ap, ◌∙◌, arith, Option, Some, None}
use Rattle.std.specs.Prelude.{Contains, count_by, is_some, unwrap_or, option_map, option_and_then}
use Rattle.std.specs.List.{cons_option}
use Rattle.std.proofs.lemmas.Bool.{ltb-true, eqb-true, false_from_ne_true, not-false}
use Rattle.vk_model.specs.declared.entry.Entry.{Entry}
use Rattle.vk_model.specs.declared.entry.Entry.TheVariants as entry
use Rattle.vk_model.specs.declared.rule.Rule.TheVariants as rule
use Rattle.vk_model.specs.Basics.{holds}
use Rattle.vk_model.specs.Trace.Point.{Past, Point, Action, Host, host_of, entries}
use Rattle.vk_model.specs.Trace.Objects.{made, bound_at, resource_in}
use Rattle.vk_model.specs.Rules.Ids.{accessed_by, is_buffer, asked_by_entry, breaks_live_id}
use Rattle.vk_model.specs.Rules.Mapping.{mapping, maps, unmaps, is_mapped}
use Rattle.vk_model.specs.Rules.Fault.{newest, older}
use Rattle.vk_model.specs.Rules.Table.{breaks}
use Rattle.vk_model.proofs.Lists.Members.{contains-cons, contains-head, none_in}
use Rattle.vk_laws.proofs.Nodes.Steady.{IsLive}
use Rattle.vk_history.specs.declared.mappings.Mappings.{Mappings}
use Rattle.vk_history.specs.Counted.{AreMappings, MapsBy, count_at, count_mapping, is_mapping}
use Rattle.vk_history.specs.Judged.{IsJudged}
use Rattle.vk_history.proofs.Kept.NextPoint.{unbroken}
use Rattle.vk_history.proofs.Living.Counting.{count-cons, count_same}
use Rattle.vk_history.proofs.Living.LiveIds.{is_alive, asked_alive, host_alive, all_live, live_now, made_old, still_made}

-- the two forms name a buffer that the host accesses
abbrev Accesses : (Entry → Option ℕ) → Type 0
Accesses form = (x : Entry) (b : ℕ) → form x ≡ Some b → (accessed_by x ≡ Some b) × (asked_by_entry x ≡ (b, is_buffer) ∷ [])

maps_access : Accesses maps
maps_access (entry.Map c) b e = let same : c ≡ b = cc in rw same (refl, refl)
maps_access _ b e = absurd cc

unmaps_access : Accesses unmaps
unmaps_access (entry.Unmap c) b e = let same : c ≡ b = cc in rw same (refl, refl)
unmaps_access _ b e = absurd cc

module _ (form : Entry → Option ℕ) (accesses : Accesses form) where
  -- a buffer that an entry names was made
  asked_made : (past : Past) (p : Point) (x : Entry) (b : ℕ) → p.action ≡ Host x → breaks_live_id past p ≡ false → form x ≡ Some b → is_some (made past b) ≡ true
  asked_made past p x b is live e =
      let none_dead = host_alive past p x is live in
      let it = is_alive past b is_buffer (asked_alive past (asked_by_entry x) b is_buffer none_dead (rw ((accesses x b e).1) (contains-head (b, is_buffer) []))) in
      ap is_some it.made_it

  named_made : (past : Past) → IsLive past → (x : Entry) → Contains (entries past) x → (b : ℕ) → form x ≡ Some b → is_some (made past b) ≡ true
  named_made [] alive x c b e = absurd (none_in x c)
  named_made (p ∷ past) alive x c b e = still_made past p b (go p.action refl (λ c. named_made past (λ d q h. alive d q (older h)) x c b e) c) where
    go : (d : Action) → p.action ≡ d → (Contains (entries past) x → is_some (made past b) ≡ true) → Contains (cons_option (host_of d) (entries past)) x → is_some (made past b) ≡ true
    go (Host y) is rest c = by (contains-cons y (entries past) x c) where
      by : (y ≡ x) ⊎ Contains (entries past) x → is_some (made past b) ≡ true
      by (inl same) = asked_made past p y b is (false_from_ne_true (breaks_live_id past p) (alive past p newest)) (ap form same ∙ e)
      by (inr c) = rest c
    go _ is rest c = rest c

  module _ (past : Past) (p : Point) (j : IsJudged (p ∷ past)) (k : ℕ) where
    same_mapping : (b : ℕ) → is_some (made past b) ≡ true → mapping (p ∷ past) b ≡ mapping past b
    same_mapping b there = ap (λ (o : Option Entry). unwrap_or (option_and_then (λ r. option_map (λ x. x.0) (bound_at r.place)) (option_and_then resource_in o)) b) (made_old past p j b there)

    abbrev has : Past → Option ℕ → Bool
    has all o = holds o (λ b. mapping all b == k)

    same_test : (x : Entry) → ((b : ℕ) → form x ≡ Some b → is_some (made past b) ≡ true) → has (p ∷ past) (form x) ≡ has past (form x)
    same_test x there = go (form x) refl where
      go : (o : Option ℕ) → form x ≡ o → has (p ∷ past) o ≡ has past o
      go None e = refl
      go (Some b) e = ap (λ m. m == k) (same_mapping b (there b e))

    count_old : count_by (λ x. has (p ∷ past) (form x)) (entries past) ≡ count_mapping past form k
    count_old = count_same _ _ (entries past) (λ x c. same_test x (named_made past (λ d q h. all_live past p j d q (older h)) x c))

    -- how many there are after a host entry, and after a point of a batch
    count_host : (x : Entry) → p.action ≡ Host x → count_mapping (p ∷ past) form k ≡ cond (has past (form x)) 1 0 + count_mapping past form k
    count_host x is =
        let now : entries (p ∷ past) ≡ x ∷ entries past = rw is refl in
        ap (count_by (λ y. has (p ∷ past) (form y))) now
        ∙ count-cons (λ y. has (p ∷ past) (form y)) x (entries past)
        ∙ ap (λ t. cond t 1 0 + count_by (λ y. has (p ∷ past) (form y)) (entries past)) (same_test x (λ b e. asked_made past p x b is (live_now past p j) e))
        ∙ ap (λ n. cond (has past (form x)) 1 0 + n) count_old

    count_quiet : host_of p.action ≡ None → count_mapping (p ∷ past) form k ≡ count_mapping past form k
    count_quiet quiet = let same : entries (p ∷ past) ≡ entries past = rw quiet refl in ap (count_by (λ y. has (p ∷ past) (form y))) same ∙ count_old

unmaps_is : (x : Entry) (b : ℕ) → unmaps x ≡ Some b → x ≡ entry.Unmap b
unmaps_is (entry.Unmap c) b e = ap (λ i. entry.Unmap i) (let same : c ≡ b = cc in same)
unmaps_is _ b e = absurd cc

module _ (past : Past) (p : Point) (j : IsJudged (p ∷ past)) (old new : Mappings) where
  -- what is unmapped was mapped
  unmappable : (b : ℕ) → p.action ≡ Host (entry.Unmap b) → is_mapped past b ≡ true
  unfolding breaks
  unmappable b is = not-false (is_mapped past b) (rw is at (unbroken past p j.faultless rule.MapState))

  enough : (x : Entry) → p.action ≡ Host x → AreMappings old past → (k : ℕ) → cond (is_mapping past (unmaps x) k) 1 0 ≤ count_at old.mapped k
  enough x is are k = go (unmaps x) refl where
    pick : (b : ℕ) → unmaps x ≡ Some b → (t : Bool) → (mapping past b == k) ≡ t → cond t 1 0 ≤ count_at old.mapped k
    pick b e false same = omega arith
    pick b e true same =
        let lt = ltb-true (count_mapping past unmaps (mapping past b)) (count_mapping past maps (mapping past b)) (unmappable b (is ∙ ap Host (unmaps_is x b e))) in
        let here : count_mapping past unmaps k < count_mapping past maps k = rw (eqb-true (mapping past b) k same) at lt in
        let was = are k in
        omega (arith, here, was)

    go : (o : Option ℕ) → unmaps x ≡ o → cond (is_mapping past o k) 1 0 ≤ count_at old.mapped k
    go None e = omega arith
    go (Some b) e = pick b e (mapping past b == k) refl

  pub host_mapped : (x : Entry) → p.action ≡ Host x → MapsBy past x old new → AreMappings old past → AreMappings new (p ∷ past)
  host_mapped x is by are = λ k.
      let more = count_host maps maps_access past p j k x is in
      let less = count_host unmaps unmaps_access past p j k x is in
      let was = are k in
      let now = by k in
      let fits = enough x is are k in
      omega (arith, more, less, was, now, fits)

  pub quiet_mapped : host_of p.action ≡ None → AreMappings old past → AreMappings old (p ∷ past)
  quiet_mapped quiet are = λ k.
      let same = count_quiet maps maps_access past p j k quiet in
      let too = count_quiet unmaps unmaps_access past p j k quiet in
      let was = are k in
      omega (arith, same, too, was)
