-- The ids of a batch's points are judged by the entries before its submit.
use Rattle.std.proofs.Common.{◌≡◌, ◌⊎◌, inl, inr, ◌<◌, ℕ, List, [], ◌∷◌, length, Bool, true, false, ◌==◌, cond, refl, ap, sym, ◌∙◌, subst, arith, Option, Some, None}
use Rattle.std.specs.Prelude.{Contains, nat_lt, if◌then◌else◌, is_some, option_map, option_and_then}
use Rattle.std.specs.List.{find, cons_option}
use Rattle.std.specs.Option.{option_or}
use Rattle.std.proofs.lemmas.Bool.{lt-ltb, le-ltb, eqb-true, eq-eqb, false_from_ne_true}
use Rattle.std.proofs.Math.Bool.{and-false}
use Rattle.vk_model.specs.declared.entry.Entry.{Entry}
use Rattle.vk_model.specs.declared.entry.Entry.TheVariants as entry
use Rattle.vk_model.specs.declared.entry.Batch.{Batch}
use Rattle.vk_model.specs.Basics.{holds}
use Rattle.vk_model.specs.Trace.Point.{Past, Point, Action, Host, Wait, Run, Signal, host_of, entries}
use Rattle.vk_model.specs.Trace.Order.{host}
use Rattle.vk_model.specs.Trace.Structure.{IsOrdered, Follows}
use Rattle.vk_model.specs.Trace.Objects.{made, made_by}
use Rattle.vk_model.specs.Rules.Ids.{until, judged_in}
use Rattle.vk_model.specs.Rules.Table.{fault}
use Rattle.vk_model.specs.Rules.Fault.{newest, older}
use Rattle.vk_model.proofs.Rules.Fault.{unbroken_of_none}
use Rattle.vk_model.proofs.Lists.Members.{contains-cons, none_in}
use Rattle.vk_model.proofs.Trace.Structure.{entry_below, is_of_batch}
use Rattle.vk_laws.proofs.Nodes.Steady.{made_until, new_ids, IsNew}
use Rattle.vk_model.specs.declared.point.Action.{Action as AnyAction}
use Rattle.vk_model.specs.declared.point.Action.TheVariants as action
use Rattle.vk_model.specs.Trace.PointViews.{action_of}
use Rattle.vk_history.specs.Made.{Numbered, makes, last_creator, earlier_than}

-- a point of a batch is no host entry
pub no_host : (a : AnyAction) → ((x : _) → a ≡ action.Host x → ⊥) → host_of (action_of a) ≡ None
no_host (action.Host x) none = absurd (none x refl)
no_host (action.Wait s) none = refl
no_host (action.Run c) none = refl
no_host (action.Signal s) none = refl

-- what made an id is the last creator's entry
pub made_is : (past : Past) (i : ℕ) → made past i ≡ option_map (λ m. m.entry) (last_creator past i)
made_is [] i = refl
made_is (p ∷ past) i = go (host_of p.action) (made_is past i) where
  pick : (x : Entry) (t : Bool) → made past i ≡ option_map (λ m. m.entry) (last_creator past i)
      → cond t (Some x) (made past i) ≡ option_map (λ m. m.entry) (option_or (if t then Some (record { entry = x; number = p.entry }) else None) (last_creator past i))
  pick x true rest = refl
  pick x false rest = rest

  go : (o : Option Entry) → made past i ≡ option_map (λ m. m.entry) (last_creator past i)
      → find (λ x. holds (made_by x) (λ j. i == j)) (cons_option o (entries past)) ≡ option_map (λ m. m.entry) (option_or (option_and_then (makes i p.entry) o) (last_creator past i))
  go None rest = rest
  go (Some x) rest = pick x (holds (made_by x) (λ j. i == j)) rest

-- a creator is one of the entries so far
pub creator_below : (past : Past) → IsOrdered past → (i : ℕ) (m : Numbered) → last_creator past i ≡ Some m → m.number < length (entries past)
creator_below [] o i m is = absurd cc
creator_below (p ∷ past) o i m is = go p.action refl o.0 is (creator_below past o.1 i m) where
  one : (x : Entry) (t : Bool) → p ≡ host (length (entries past)) x → option_or (if t then Some (record { entry = x; number = p.entry }) else None) (last_creator past i) ≡ Some m → (last_creator past i ≡ Some m → m.number < length (entries past)) → m.number < length (x ∷ entries past)
  one x true f e rest = let n : p.entry ≡ length (entries past) = ap (λ (q : Point). q.entry) f in let same : p.entry ≡ m.number = cc in omega (arith, n, same)
  one x false f e rest = let lt = rest e in omega (arith, lt)

  go : (d : Action) → p.action ≡ d → Follows past p d → option_or (option_and_then (makes i p.entry) (host_of d)) (last_creator past i) ≡ Some m → (last_creator past i ≡ Some m → m.number < length (entries past)) → m.number < length (cons_option (host_of d) (entries past))
  go (Host x) is f e rest = one x (holds (made_by x) (λ j. i == j)) f e rest
  go (Wait s) is f e rest = rest e
  go (Run c) is f e rest = rest e
  go (Signal s) is f e rest = rest e

abbrev Judges : Past → ℕ → ℕ → Type 0
Judges past e i = made (until e past) i ≡ option_and_then (earlier_than e) (last_creator past i)

module _ (e i : ℕ) (q : ℕ) (bs : List Batch) where
  abbrev submit : Point
  submit = host e (entry.Submit q bs)

  all_below : (o : Option Numbered) → ((m : Numbered) → o ≡ Some m → m.number < e) → option_map (λ m. m.entry) o ≡ option_and_then (earlier_than e) o
  all_below None lt = refl
  all_below (Some m) lt = rw (lt-ltb m.number e (lt m refl)) refl

  judges : (past : Past) → IsOrdered past → IsNew past → Contains past submit → Judges past e i
  judges [] o new c = absurd (none_in submit c)
  judges (p ∷ past) o new c = go p.action refl o.0 (contains-cons p past submit c) (judges past o.1 (λ b r comes h. new b r (older comes) h)) where
    skip : (d : Action) → p.action ≡ d → host_of d ≡ None → Judges past e i → Judges (p ∷ past) e i
    skip d is quiet rest = rw (is, quiet, and-false (p.entry == e)) rest

    by_host : (x : Entry) → p.action ≡ Host x → p ≡ host (length (entries past)) x → (p ≡ submit) ⊎ Contains past submit → (Contains past submit → Judges past e i) → Judges (p ∷ past) e i
    by_host x is f (inl same) rest =
        let there : x ≡ entry.Submit q bs = (let a : Host x ≡ Host (entry.Submit q bs) = sym is ∙ ap (λ (r : Point). r.action) same in cc) in
        let number : p.entry ≡ e = ap (λ (r : Point). r.entry) same in
        let count : p.entry ≡ length (entries past) = ap (λ (r : Point). r.entry) f in
        rw (is, there, eq-eqb p.entry e number) (made_is past i ∙ all_below (last_creator past i) (λ m at. let lt = creator_below past o.1 i m at in omega (arith, lt, number, count)))
    by_host x is f (inr c) rest =
        let lt : e < length (entries past) = entry_below past o.1 submit c in
        let count : p.entry ≡ length (entries past) = ap (λ (r : Point). r.entry) f in
        let other : (p.entry == e) ≡ false = false_from_ne_true (p.entry == e) (λ h. let same : p.entry ≡ e = eqb-true p.entry e h in omega (arith, same, lt, count)) in
        rw (is, other) (by_id (made_by x) refl) where
          late : nat_lt p.entry e ≡ false
          late = let lt : e < length (entries past) = entry_below past o.1 submit c in
              let count : p.entry ≡ length (entries past) = ap (λ (r : Point). r.entry) f in
              le-ltb p.entry e (omega (arith, lt, count))

          unmade : (j : ℕ) → made_by x ≡ Some j → (i == j) ≡ true → made (until e past) i ≡ None
          unmade j by same = none_of (made (until e past) i) refl where
            none_of : (u : Option Entry) → made (until e past) i ≡ u → u ≡ None
            none_of None at = refl
            none_of (Some y) at =
                let was : made past i ≡ Some y = made_until e past i y (λ b r comes h. new b r (older comes) h) at in
                absurd (new past p newest (rw (is, by) (subst (λ k. is_some (made past k) ≡ true) (eqb-true i j same) (rw was refl))))

          by_id : (u : Option ℕ) → made_by x ≡ u → made (until e past) i ≡ option_and_then (earlier_than e) (option_or (if holds u (λ j. i == j) then Some (record { entry = x; number = p.entry }) else None) (last_creator past i))
          by_id None by = rest c
          by_id (Some j) by = pick (i == j) refl where
            pick : (t : Bool) → (i == j) ≡ t → made (until e past) i ≡ option_and_then (earlier_than e) (option_or (if t then Some (record { entry = x; number = p.entry }) else None) (last_creator past i))
            pick true same = rw late (unmade j by same)
            pick false same = rest c

    go : (d : Action) → p.action ≡ d → Follows past p d → (p ≡ submit) ⊎ Contains past submit → (Contains past submit → Judges past e i) → Judges (p ∷ past) e i
    go (Host x) is f there rest = by_host x is f there rest
    go (Wait s) is f (inl same) rest = absurd (let bad : Wait s ≡ Host (entry.Submit q bs) = sym is ∙ ap (λ (r : Point). r.action) same in cc)
    go (Run s) is f (inl same) rest = absurd (let bad : Run s ≡ Host (entry.Submit q bs) = sym is ∙ ap (λ (r : Point). r.action) same in cc)
    go (Signal s) is f (inl same) rest = absurd (let bad : Signal s ≡ Host (entry.Submit q bs) = sym is ∙ ap (λ (r : Point). r.action) same in cc)
    go (Wait s) is f (inr c) rest = skip (Wait s) is refl (rest c)
    go (Run s) is f (inr c) rest = skip (Run s) is refl (rest c)
    go (Signal s) is f (inr c) rest = skip (Signal s) is refl (rest c)

-- what is judged of a point of a batch was made before its submit
pub judged_made : (past : Past) (p : Point) (i : ℕ) → fault past ≡ None → IsOrdered (p ∷ past) → host_of p.action ≡ None → made (judged_in past p) i ≡ option_and_then (earlier_than p.entry) (last_creator past i)
judged_made past p i none o quiet =
    let f = is_of_batch past p p.action quiet o.0 in
    rw quiet (judges p.entry i p.queue f.batches past o.1 (new_ids past (unbroken_of_none past none)) f.submitted)
