-- Which defragmentations have begun, and which passes are open, when an entry has come.
use Rattle.std.proofs.Common.{◌≡◌, ℕ, ◌+◌, ◌≤◌, List, [], ◌∷◌, ◌++◌, map, Bool, true, false, cond, ◌||◌, ◌==◌, nat_lt, IsTrue, refl, ap, sym, ◌∙◌, subst, arith, Option, Some, None}
use Rattle.std.specs.Prelude.{Contains, count_by, option_and_then, if◌then◌else◌}
use Rattle.std.proofs.lemmas.Bool.{eqb-true, eq-eqb, ne_eqb, ltb-true, lt-ltb, ltb-false, false_from_ne_true}
use Rattle.std.proofs.lemmas.List.Sums.{sum_by-cons}
use Rattle.std.proofs.lemmas.List.Elements.{Contains-append_right}
use Rattle.vk_model.specs.declared.entry.Entry.{Entry}
use Rattle.vk_model.specs.declared.entry.Entry.TheVariants as entry
use Rattle.vk_model.specs.declared.rule.Rule.TheVariants as rule
use Rattle.vk_model.specs.Basics.{holds, among}
use Rattle.vk_model.specs.Trace.Point.{Past, Point, Action, Host, Wait, Run, Signal, host_of, entries}
use Rattle.vk_model.specs.Trace.Objects.{made, made_by, ended, ended_by, live, defrag_in}
use Rattle.vk_model.specs.Trace.Order.{host}
use Rattle.vk_model.specs.Rules.Fault.{newest, older, IsUnbroken}
use Rattle.vk_model.specs.Rules.Ids.{is_memory, is_pool, is_defrag, is_resource, asked_by_entry, breaks_live_id}
use Rattle.vk_model.specs.Rules.Passes.{begins, finishes, count_of, in_pass, pool_of_defrag, bad_pass, breaks_pass_state}
use Rattle.vk_model.specs.Rules.Table.{breaks}
use Rattle.vk_model.proofs.Lists.Members.{contains-head, contains-tail, map_has, some_member}
use Rattle.vk_model.proofs.Lists.Truths.{unless}
use Rattle.vk_laws.proofs.Living.Passing.{none_open, rules_kept}
use Rattle.vk_device.specs.Inner.Clean.{IsClean}
use Rattle.vk_device.specs.Inner.Fits.{is_of_passes}
use Rattle.vk_device.proofs.Unbroken.{BreaksNone, new_made, names_live}

-- ---- entries of no defragmentation

-- an entry neither begins nor ends a defragmentation or a pass
pub record NoPass (x : Entry) : Type 0 where
  pub makes : defrag_in x ≡ None
  pub ends : (d : ℕ) → x ≡ entry.EndDefrag d → ⊥
  pub first : begins x ≡ None
  pub last : finishes x ≡ None

pub no_pass : (x : Entry) → is_of_passes x ≡ false → NoPass x
no_pass (entry.Defrag i q n m) is = absurd cc
no_pass (entry.Pass d) is = absurd cc
no_pass (entry.EndPass d kept lost) is = absurd cc
no_pass (entry.EndDefrag d) is = absurd cc
no_pass _ is = record { makes = refl; ends = λ d is. cc; first = refl; last = refl }

-- ---- the rules

pub pass_state : (past : Past) (e : ℕ) (x : Entry) → BreaksNone past (host e x) → bad_pass past x ≡ false
unfolding breaks
pass_state past e x none = none rule.PassState

pub unbroken_before : (past : Past) (p : Point) → IsClean (p ∷ past) → IsUnbroken past
unbroken_before past p clean b q r h = clean.sound b q r (older h.0) h.1

-- ---- counts

count_host : (past : Past) (p : Point) (x : Entry) → p.action ≡ Host x → (form : Entry → Option ℕ) (d : ℕ) → count_of (p ∷ past) d form ≡ cond (holds (form x) (λ f. f == d)) 1 0 + count_of past d form
count_host past p x is form d =
    let now : entries (p ∷ past) ≡ x ∷ entries past = rw is refl in
    ap (count_by (λ y. holds (form y) (λ f. f == d))) now ∙ sum_by-cons (λ y. cond (holds (form y) (λ f. f == d)) 1 0) x (entries past)

count_other : (past : Past) (p : Point) (x : Entry) → p.action ≡ Host x → (form : Entry → Option ℕ) (d : ℕ) → holds (form x) (λ f. f == d) ≡ false → count_of (p ∷ past) d form ≡ count_of past d form
count_other past p x is form d away =
    let n = count_host past p x is form d in
    let none : ◌≡◌ {A = ℕ} (cond (holds (form x) (λ f. f == d)) 1 0) 0 = rw away refl in
    omega (arith, n, none)

count_more : (past : Past) (p : Point) (x : Entry) → p.action ≡ Host x → (form : Entry → Option ℕ) (d : ℕ) → holds (form x) (λ f. f == d) ≡ true → count_of (p ∷ past) d form ≡ count_of past d form + 1
count_more past p x is form d here =
    let n = count_host past p x is form d in
    let one : ◌≡◌ {A = ℕ} (cond (holds (form x) (λ f. f == d)) 1 0) 1 = rw here refl in
    omega (arith, n, one)

count_quiet : (past : Past) (p : Point) → host_of p.action ≡ None → (form : Entry → Option ℕ) (d : ℕ) → count_of (p ∷ past) d form ≡ count_of past d form
count_quiet past p is form d = let now : entries (p ∷ past) ≡ entries past = rw is refl in ap (count_by (λ y. holds (form y) (λ f. f == d))) now

-- a pass of a defragmentation begins once more than it ends at most, and ends no more than it begins
pub record ArePaired (past : Past) (d : ℕ) : Type 0 where
  pub low : count_of past d finishes ≤ count_of past d begins
  pub high : count_of past d begins ≤ count_of past d finishes + 1

unbroken_older : (p : Point) (rest : Past) → IsUnbroken (p ∷ rest) → IsUnbroken rest
unbroken_older p rest sound b q r h = sound b q r (older h.0, h.1)

pub paired : (past : Past) (d : ℕ) → IsUnbroken past → ArePaired past d
paired [] d sound = record { low = omega arith; high = omega arith }
paired (p ∷ rest) d sound = go p.action refl (paired rest d (unbroken_older p rest sound))
  where
    kept : (IsTrue (breaks_pass_state rest p) → ⊥) × (IsTrue (breaks_live_id rest p) → ⊥)
    kept = rules_kept (p ∷ rest) rest p sound newest

    same : count_of (p ∷ rest) d begins ≡ count_of rest d begins → count_of (p ∷ rest) d finishes ≡ count_of rest d finishes → ArePaired rest d → ArePaired (p ∷ rest) d
    same one two was = record { low = (let l = was.low in omega (arith, one, two, l)); high = (let h = was.high in omega (arith, one, two, h)) }

    quiet : host_of p.action ≡ None → ArePaired rest d → ArePaired (p ∷ rest) d
    quiet is was = same (count_quiet rest p is begins d) (count_quiet rest p is finishes d) was

    plain : (x : Entry) → p.action ≡ Host x → holds (begins x) (λ f. f == d) ≡ false → holds (finishes x) (λ f. f == d) ≡ false → ArePaired rest d → ArePaired (p ∷ rest) d
    plain x is first last was = same (count_other rest p x is begins d first) (count_other rest p x is finishes d last) was

    by_pass : (f : ℕ) → p.action ≡ Host (entry.Pass f) → (b : Bool) → (f == d) ≡ b → ArePaired rest d → ArePaired (p ∷ rest) d
    by_pass f is false e was = plain (entry.Pass f) is e refl was
    by_pass f is true e was =
        let its = subst (λ (k : ℕ). p.action ≡ Host (entry.Pass k)) (eqb-true f d e) is in
        let shut : in_pass rest d ≡ false = false_from_ne_true (in_pass rest d) (none_open rest p d its kept) in
        let le = ltb-false (count_of rest d finishes) (count_of rest d begins) shut in
        let one = count_more rest p (entry.Pass f) is begins d e in
        let two = count_other rest p (entry.Pass f) is finishes d refl in
        record { low = (let l = was.low in omega (arith, one, two, l)); high = omega (arith, one, two, le) }

    by_end : (f : ℕ) (some lost : List ℕ) → p.action ≡ Host (entry.EndPass f some lost) → (b : Bool) → (f == d) ≡ b → ArePaired rest d → ArePaired (p ∷ rest) d
    by_end f some lost is false e was = plain (entry.EndPass f some lost) is refl e was
    by_end f some lost is true e was =
        let going : IsTrue (in_pass rest f) = unless (in_pass rest f) (λ h. kept.0 (subst (λ (a : Action). IsTrue (holds (host_of a) (bad_pass rest))) (sym is) h)) in
        let less = ltb-true (count_of rest d finishes) (count_of rest d begins) (subst (λ (k : ℕ). IsTrue (in_pass rest k)) (eqb-true f d e) going) in
        let one = count_other rest p (entry.EndPass f some lost) is begins d refl in
        let two = count_more rest p (entry.EndPass f some lost) is finishes d e in
        record { low = omega (arith, one, two, less); high = (let h = was.high in omega (arith, one, two, h)) }

    go : (a : Action) → p.action ≡ a → ArePaired rest d → ArePaired (p ∷ rest) d
    go (Host (entry.Pass f)) is was = by_pass f is (f == d) refl was
    go (Host (entry.EndPass f some lost)) is was = by_end f some lost is (f == d) refl was
    go (Host x) is was = plain x is refl refl was
    go (Wait w) is was = quiet (ap host_of is) was
    go (Run c) is was = quiet (ap host_of is) was
    go (Signal w) is was = quiet (ap host_of is) was

-- ---- passes when an entry has come

module _ (past : Past) (e : ℕ) (x : Entry) where
  -- one that it neither begins nor ends
  pub pass_stays : (i : ℕ) → holds (begins x) (λ f. f == i) ≡ false → holds (finishes x) (λ f. f == i) ≡ false → in_pass (host e x ∷ past) i ≡ in_pass past i
  pass_stays i first last =
      let one = count_other past (host e x) x refl begins i first in
      let two = count_other past (host e x) x refl finishes i last in
      ap (λ (n : ℕ). nat_lt n (count_of (host e x ∷ past) i begins)) two ∙ ap (λ (n : ℕ). nat_lt (count_of past i finishes) n) one

pub pass_begun : (past : Past) (e d : ℕ) → ArePaired past d → in_pass (host e (entry.Pass d) ∷ past) d ≡ true
pass_begun past e d was =
    let one = count_more past (host e (entry.Pass d)) (entry.Pass d) refl begins d (eq-eqb d d refl) in
    let two = count_other past (host e (entry.Pass d)) (entry.Pass d) refl finishes d refl in
    let low = was.low in
    lt-ltb (count_of (host e (entry.Pass d) ∷ past) d finishes) (count_of (host e (entry.Pass d) ∷ past) d begins) (omega (arith, one, two, low))

pub pass_ended : (past : Past) (e d : ℕ) (kept lost : List ℕ) → ArePaired past d → in_pass (host e (entry.EndPass d kept lost) ∷ past) d ≡ true → ⊥
pass_ended past e d kept lost was h =
    let one = count_other past (host e (entry.EndPass d kept lost)) (entry.EndPass d kept lost) refl begins d refl in
    let two = count_more past (host e (entry.EndPass d kept lost)) (entry.EndPass d kept lost) refl finishes d (eq-eqb d d refl) in
    let high = was.high in
    let less = ltb-true (count_of (host e (entry.EndPass d kept lost) ∷ past) d finishes) (count_of (host e (entry.EndPass d kept lost) ∷ past) d begins) h in
    absurd (omega (arith, one, two, high, less))

-- ---- defragmentations when an entry has come

-- what is live as something else is no defragmentation
other_kind : (o : Option Entry) (kind : Entry → Bool) → ((y : Entry) → kind y ≡ true → defrag_in y ≡ None) → holds o kind ≡ true → option_and_then defrag_in o ≡ None
other_kind None kind apart h = refl
other_kind (Some y) kind apart h = apart y h

no_memory : (y : Entry) → is_memory y ≡ true → defrag_in y ≡ None
no_memory (entry.Defrag i q b m) h = absurd cc
no_memory _ h = refl

no_pool : (y : Entry) → is_pool y ≡ true → defrag_in y ≡ None
no_pool (entry.Defrag i q b m) h = absurd cc
no_pool _ h = refl

no_resource : (y : Entry) → is_resource y ≡ true → defrag_in y ≡ None
no_resource (entry.Defrag i q b m) h = absurd cc
no_resource _ h = refl

one_id : (i j : ℕ) → among i (j ∷ []) ≡ true → i ≡ j
one_id i j h = go (i == j) refl h
  where
    go : (b : Bool) → (i == j) ≡ b → (b || false) ≡ true → i ≡ j
    go true same h = eqb-true i j same
    go false same h = absurd cc

module _ (past : Past) (e : ℕ) (x : Entry) (none : BreaksNone past (host e x)) where
  -- what the end of a pass destroys is live
  pub lost_live : (d : ℕ) (kept lost : List ℕ) → x ≡ entry.EndPass d kept lost → (i : ℕ) → Contains lost i → IsTrue (holds (live past i) is_resource)
  lost_live d kept lost same i there = names_live past (host e x) none (entry.EndPass d kept lost) i is_resource (ap Host same)
      (contains-tail (d, is_defrag) (map (λ r. (r, is_resource)) (kept ++ lost)) (i, is_resource) (map_has (λ r. (r, is_resource)) (kept ++ lost) i (Contains-append_right kept lost i there)))

  -- what an entry ends is no defragmentation, but for the end of one
  pub ended_other : ((d : ℕ) → x ≡ entry.EndDefrag d → ⊥) → (i : ℕ) → among i (ended_by x) ≡ true → pool_of_defrag past i ≡ None
  ended_other apart i h = go x refl h
    where
      alone : (r : ℕ) (kind : Entry → Bool) (y : Entry) → x ≡ y → asked_by_entry y ≡ (r, kind) ∷ [] → ((y : Entry) → kind y ≡ true → defrag_in y ≡ None) → i ≡ r → pool_of_defrag past i ≡ None
      alone r kind y same asks other is = ap (λ (j : ℕ). pool_of_defrag past j) is
          ∙ other_kind (live past r) kind other (names_live past (host e x) none y r kind (ap Host same) (subst (λ (l : List (ℕ × (Entry → Bool))). Contains l (r, kind)) (sym asks) (contains-head (r, kind) [])))

      go : (y : Entry) → x ≡ y → among i (ended_by y) ≡ true → pool_of_defrag past i ≡ None
      go (entry.Free m) same h = alone m is_memory (entry.Free m) same refl no_memory (one_id i m h)
      go (entry.Destroy r) same h = alone r is_resource (entry.Destroy r) same refl no_resource (one_id i r h)
      go (entry.DropPool q) same h = alone q is_pool (entry.DropPool q) same refl no_pool (one_id i q h)
      go (entry.EndDefrag d) same h = absurd (apart d same)
      go (entry.EndPass d kept lost) same h =
          let m = some_member (λ y. i == y) lost h in
          let is : i ≡ m.0 = eqb-true i m.0 m.2 in
          other_kind (live past i) is_resource no_resource (lost_live d kept lost same i (subst (λ (j : ℕ). Contains lost j) (sym is) m.1))
      go _ same h = absurd cc

  -- so an entry that neither begins nor ends one leaves each as it was
  pub defrags_stay : defrag_in x ≡ None → ((d : ℕ) → x ≡ entry.EndDefrag d → ⊥) → (i : ℕ) → pool_of_defrag (host e x ∷ past) i ≡ pool_of_defrag past i
  defrags_stay no_defrag apart i = go (among i (ended_by x)) refl (made_by x) refl
    where
      unmade : (j : ℕ) → made_by x ≡ Some j → made past j ≡ None
      unmade j makes = new_made past (host e x) none x j refl makes

      new_one : (j : ℕ) → made_by x ≡ Some j → i ≡ j → (w : Bool) → option_and_then defrag_in (if w then None else Some x) ≡ option_and_then defrag_in (if w then None else made past i)
      new_one j makes is true = refl
      new_one j makes is false = no_defrag ∙ ap (option_and_then defrag_in) (sym (ap (λ (k : ℕ). made past k) is ∙ unmade j makes))

      by_made : (j : ℕ) → made_by x ≡ Some j → (b : Bool) → (i == j) ≡ b → option_and_then defrag_in (if ended past i then None else cond b (Some x) (made past i)) ≡ pool_of_defrag past i
      by_made j makes true same = new_one j makes (eqb-true i j same) (ended past i)
      by_made j makes false same = refl

      go : (b : Bool) → among i (ended_by x) ≡ b → (o : Option ℕ) → made_by x ≡ o → option_and_then defrag_in (if b || ended past i then None else cond (holds o (λ j. i == j)) (Some x) (made past i)) ≡ pool_of_defrag past i
      go true h o makes = sym (ended_other apart i h)
      go false h None makes = refl
      go false h (Some j) makes = by_made j makes (i == j) refl

-- one that begins is of its pool
pub defrag_begun : (past : Past) (e i q n m : ℕ) → ended past i ≡ false → pool_of_defrag (host e (entry.Defrag i q n m) ∷ past) i ≡ Some q
defrag_begun past e i q n m unended = rw (unended, eq-eqb i i refl) refl

pub defrag_others : (past : Past) (e i q n m j : ℕ) → (j ≡ i → ⊥) → pool_of_defrag (host e (entry.Defrag i q n m) ∷ past) j ≡ pool_of_defrag past j
defrag_others past e i q n m j other = rw (ne_eqb j i other) refl

-- one that has ended is there no more
pub defrag_ended : (past : Past) (e d : ℕ) → pool_of_defrag (host e (entry.EndDefrag d) ∷ past) d ≡ None
defrag_ended past e d = rw (eq-eqb d d refl) refl

pub undefrag_others : (past : Past) (e d j : ℕ) → (j ≡ d → ⊥) → pool_of_defrag (host e (entry.EndDefrag d) ∷ past) j ≡ pool_of_defrag past j
undefrag_others past e d j other = rw (ne_eqb j d other) refl
