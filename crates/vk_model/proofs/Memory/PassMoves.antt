-- The moves that a pass begins with.
use Rattle.std.proofs.Common.{◌≡◌, ◌⊎◌, inl, inr, ⊎_elim, ℕ, ◌+◌, ◌*◌, ◌/◌, ◌<◌, ◌≤◌, List, [], ◌∷◌, Bool, true, false, cond, ◌==◌, nat_lt, refl, ap, sym, ◌∙◌, subst, arith}
use Rattle.std.specs.Prelude.{All, AllPairs, Contains, Option, Some, None, if◌then◌else◌}
use Rattle.std.specs.Option.{option_or}
use Rattle.std.proofs.lemmas.List.Elements.{All-nil, All-cons, All-head, All-tail, All-contains}
use Rattle.vk_model.specs.Memory.Suballocation.{Request, taken_at}
use Rattle.vk_model.specs.Memory.MoveTargets.{Numbered, BlockStart, Resident, Moved, place_in, move_target, reserved, over_limit, moves_from}
use Rattle.vk_model.specs.Memory.Pools.{blocks_below, rank, IsHigher}
use Rattle.vk_model.specs.Memory.PassRanks.{AreOnce}
use Rattle.vk_model.specs.Memory.PassLaws.{NoMovesLeft}
use Rattle.vk_model.proofs.Lists.Members.{contains-head, contains-tail, contains-cons, none_in}
use Rattle.vk_model.proofs.Memory.AllPairs.{pairs_first, pairs_rest}
use Rattle.vk_model.proofs.Memory.Ranks.{Falls, falls, goes, one_more, ranks_fall}

-- ---- the block of a move target

-- some block has this number
abbrev pub HasNumber : List Numbered → ℕ → Type 0
HasNumber blocks n = (b : Numbered) × Contains blocks b × (b.number ≡ n)

target_block : (blocks : List Numbered) (a : Resident) (s : BlockStart) → move_target blocks a ≡ Some s → HasNumber blocks s.block
target_block [] a s e = absurd cc
target_block (b ∷ bs) a s e = go (place_in a b) refl e (target_block bs a s)
  where
    go : (o : Option BlockStart) → place_in a b ≡ o → option_or o (move_target bs a) ≡ Some s → (move_target bs a ≡ Some s → HasNumber bs s.block) → HasNumber (b ∷ bs) s.block
    go None is e rest = let r = rest e in (r.0, contains-tail b bs r.0 r.1, r.2)
    go (Some t) is e rest = (b, contains-head b bs, sym (goes a b s (is ∙ e)).0)

-- ---- blocks in which a target is reserved

module _ (s : BlockStart) (r : Request) where
  abbrev pub with_range : Numbered → Numbered
  with_range b = if b.number == s.block then record b { taken = taken_at s.start r ∷ b.taken } else b

  range_number : (b : Numbered) → (with_range b).number ≡ b.number
  range_number b = go (b.number == s.block)
    where
      go : (t : Bool) → (if t then record b { taken = taken_at s.start r ∷ b.taken } else b).number ≡ b.number
      go true = refl
      go false = refl

  range_size : (b : Numbered) → (with_range b).size ≡ b.size
  range_size b = go (b.number == s.block)
    where
      go : (t : Bool) → (if t then record b { taken = taken_at s.start r ∷ b.taken } else b).size ≡ b.size
      go true = refl
      go false = refl

  reserved_below : (bs : List Numbered) (n : ℕ) → blocks_below (reserved s r bs) n ≡ blocks_below bs n
  reserved_below [] n = refl
  reserved_below (b ∷ bs) n =
      one_more (with_range b) (reserved s r bs) n
      ∙ ap (λ (j : ℕ). cond (nat_lt j n) 1 0 + blocks_below (reserved s r bs) n) (range_number b)
      ∙ ap (λ (j : ℕ). cond (nat_lt b.number n) 1 0 + j) (reserved_below bs n)
      ∙ sym (one_more b bs n)

  reserved_sizes : (size : ℕ) (bs : List Numbered) → All (λ b. b.size ≡ size) bs → All (λ b. b.size ≡ size) (reserved s r bs)
  reserved_sizes size [] all = all
  reserved_sizes size (b ∷ bs) all =
      All-cons (λ c. c.size ≡ size) (with_range b) (reserved s r bs) (range_size b ∙ All-head (λ c. c.size ≡ size) b bs all)
      (reserved_sizes size bs (All-tail (λ c. c.size ≡ size) b bs all))

  reserved_number : (bs : List Numbered) (n : ℕ) → HasNumber (reserved s r bs) n → HasNumber bs n
  reserved_number [] n h = absurd (none_in h.0 h.1)
  reserved_number (b ∷ bs) n h = ⊎_elim
      (λ same. (b, contains-head b bs, sym (range_number b) ∙ ap (λ (c : Numbered). c.number) same ∙ h.2))
      (λ later. let rest = reserved_number bs n (h.0, later, h.2) in (rest.0, contains-tail b bs rest.0 rest.1, rest.2))
      (contains-cons (with_range b) (reserved s r bs) h.0 h.1)

-- ---- each move is of one of the resources that were listed, to a lower place in the blocks as they were at first

pub record Leads (size : ℕ) (blocks : List Numbered) (listed : List Resident) (m : Moved) : Type 0 where
  pub resident : Resident
  pub there : Contains listed resident
  pub its : resident.id ≡ m.id
  pub lower : rank size blocks m.to < rank size blocks resident.from
  pub stands : HasNumber blocks m.to.block
  pub inside : (m.to.start + 16 ≤ size) ⊎ (m.to.start + 16 ≤ resident.from.start)

module _ (size max_bytes max_moves : ℕ) where
  abbrev chosen : ℕ → ℕ → List Numbered → List Resident → List Moved
  chosen bytes count blocks listed = moves_from max_bytes max_moves bytes count blocks listed

  abbrev move_of : Resident → BlockStart → Moved
  move_of a s = record { id = a.id; to = s; bytes = a.request.size }

  abbrev later : ℕ → ℕ → List Numbered → Resident → List Resident → BlockStart → List Moved
  later bytes count blocks a rest s = chosen (bytes + a.request.size) (count + 1) (reserved s a.request blocks) rest

  -- the moves when the target of the first resource is known, and then whether it passes a limit
  abbrev after_target : ℕ → ℕ → List Numbered → Resident → List Resident → Option BlockStart → List Moved
  after_target bytes count blocks a rest o = elim o [
    | None ↦ chosen bytes count blocks rest
    | Some s ↦ elim (over_limit max_bytes max_moves bytes count a.request.size) [ true ↦ [] | false ↦ move_of a s ∷ later bytes count blocks a rest s ]
  ]

  abbrev after_limit : ℕ → ℕ → List Numbered → Resident → List Resident → BlockStart → Bool → List Moved
  after_limit bytes count blocks a rest s over = elim over [ true ↦ [] | false ↦ move_of a s ∷ later bytes count blocks a rest s ]

  first_leads : (blocks : List Numbered) (a : Resident) (rest : List Resident) (s : BlockStart) → 16 ≤ a.request.size → All (λ b. b.size ≡ size) blocks → move_target blocks a ≡ Some s → Leads size blocks (a ∷ rest) (move_of a s)
  first_leads blocks a rest s some sizes e = record {
    resident = a;
    there = contains-head a rest;
    its = refl;
    lower = ranks_fall size blocks a s some sizes e;
    stands = target_block blocks a s e;
    inside = ends (falls size blocks a s sizes e);
  }
    where
      ends : Falls size blocks a s → (s.start + 16 ≤ size) ⊎ (s.start + 16 ≤ a.from.start)
      ends (inl earlier) = inl (omega (arith, earlier.2))
      ends (inr own) = inr (omega (arith, own.1))

  rest_leads : (blocks : List Numbered) (a : Resident) (rest : List Resident) (m : Moved) → Leads size blocks rest m → Leads size blocks (a ∷ rest) m
  rest_leads blocks a rest m l = record {
    resident = l.resident;
    there = contains-tail a rest l.resident l.there;
    its = l.its;
    lower = l.lower;
    stands = l.stands;
    inside = l.inside;
  }

  reserved_leads : (s : BlockStart) (r : Request) (blocks : List Numbered) (listed : List Resident) (m : Moved) → Leads size (reserved s r blocks) listed m → Leads size blocks listed m
  reserved_leads s r blocks listed m l =
      let to = reserved_below s r blocks m.to.block in
      let from = reserved_below s r blocks l.resident.from.block in
      let places : rank size (reserved s r blocks) m.to ≡ rank size blocks m.to = ap (λ n. n * (size / 16) + m.to.start / 16) to in
      let old : rank size (reserved s r blocks) l.resident.from ≡ rank size blocks l.resident.from = ap (λ n. n * (size / 16) + l.resident.from.start / 16) from in
      record {
        resident = l.resident;
        there = l.there;
        its = l.its;
        lower = omega (arith, l.lower, places, old);
        stands = reserved_number s r blocks m.to.block l.stands;
        inside = l.inside;
      }

  pub each_leads : (listed : List Resident) (bytes count : ℕ) (blocks : List Numbered) → All (λ a. 16 ≤ a.request.size) listed → All (λ b. b.size ≡ size) blocks
      → (m : Moved) → Contains (chosen bytes count blocks listed) m → Leads size blocks listed m
  each_leads [] bytes count blocks some sizes m c = absurd (none_in m c)
  each_leads (a ∷ rest) bytes count blocks some sizes m c =
      go (move_target blocks a) refl c
      (each_leads rest bytes count blocks tail sizes m)
      (λ s. each_leads rest (bytes + a.request.size) (count + 1) (reserved s a.request blocks) tail (reserved_sizes s a.request size blocks sizes) m)
    where
      tail : All (λ b. 16 ≤ b.request.size) rest
      tail = All-tail (λ b. 16 ≤ b.request.size) a rest some

      limit : (s : BlockStart) (over : Bool) → move_target blocks a ≡ Some s → Contains (after_limit bytes count blocks a rest s over) m
          → (Contains (later bytes count blocks a rest s) m → Leads size (reserved s a.request blocks) rest m) → Leads size blocks (a ∷ rest) m
      limit s true e c more = absurd (none_in m c)
      limit s false e c more = ⊎_elim
          (λ same. subst (Leads size blocks (a ∷ rest)) same (first_leads blocks a rest s (All-head (λ b. 16 ≤ b.request.size) a rest some) sizes e))
          (λ next. rest_leads blocks a rest m (reserved_leads s a.request blocks rest m (more next)))
          (contains-cons (move_of a s) (later bytes count blocks a rest s) m c)

      go : (o : Option BlockStart) → move_target blocks a ≡ o → Contains (after_target bytes count blocks a rest o) m
          → (Contains (chosen bytes count blocks rest) m → Leads size blocks rest m)
          → ((s : BlockStart) → Contains (later bytes count blocks a rest s) m → Leads size (reserved s a.request blocks) rest m) → Leads size blocks (a ∷ rest) m
      go None e c pass more = rest_leads blocks a rest m (pass c)
      go (Some s) e c pass more = limit s (over_limit max_bytes max_moves bytes count a.request.size) e c (more s)

  -- ---- no resource is moved twice

  abbrev Higher : Resident → Resident → Type 0
  Higher a b = IsHigher a.from b.from

  not_itself : (a : Resident) → Higher a a → ⊥
  not_itself a (inl earlier) = omega arith
  not_itself a (inr own) = omega (arith, own.1)

  pub each_once : (listed : List Resident) (bytes count : ℕ) (blocks : List Numbered) → All (λ a. 16 ≤ a.request.size) listed → All (λ b. b.size ≡ size) blocks
      → AllPairs Higher listed → ((a b : Resident) → Contains listed a → Contains listed b → a.id ≡ b.id → a ≡ b) → AreOnce (chosen bytes count blocks listed)
  each_once [] bytes count blocks some sizes falling ids = tt
  each_once (a ∷ rest) bytes count blocks some sizes falling ids =
      go (move_target blocks a) (each_once rest bytes count blocks tail sizes lower same)
      (λ s. each_once rest (bytes + a.request.size) (count + 1) (reserved s a.request blocks) tail (reserved_sizes s a.request size blocks sizes) lower same)
    where
      tail : All (λ b. 16 ≤ b.request.size) rest
      tail = All-tail (λ b. 16 ≤ b.request.size) a rest some

      lower : AllPairs Higher rest
      lower = pairs_rest Higher a rest falling

      same : (b c : Resident) → Contains rest b → Contains rest c → b.id ≡ c.id → b ≡ c
      same b c x y e = ids b c (contains-tail a rest b x) (contains-tail a rest c y) e

      apart : (s : BlockStart) (n : Moved) → Contains (later bytes count blocks a rest s) n → a.id ≡ n.id → ⊥
      apart s n c e =
          let l = each_leads rest (bytes + a.request.size) (count + 1) (reserved s a.request blocks) tail (reserved_sizes s a.request size blocks sizes) n c in
          let is : a ≡ l.resident = ids a l.resident (contains-head a rest) (contains-tail a rest l.resident l.there) (e ∙ sym l.its) in
          not_itself a (subst (Higher a) (sym is) (All-contains (Higher a) rest l.resident (pairs_first Higher a rest falling) l.there))

      limit : (s : BlockStart) (over : Bool) → AreOnce (later bytes count blocks a rest s) → AreOnce (after_limit bytes count blocks a rest s over)
      limit s true once = tt
      limit s false once = (apart s, once)

      go : (o : Option BlockStart) → AreOnce (chosen bytes count blocks rest) → ((s : BlockStart) → AreOnce (later bytes count blocks a rest s)) → AreOnce (after_target bytes count blocks a rest o)
      go None pass more = pass
      go (Some s) pass more = limit s (over_limit max_bytes max_moves bytes count a.request.size) (more s)

-- ---- a pass without limits

none_left : (blocks : List Numbered) (listed : List Resident) (bytes count : ℕ) → moves_from 0 0 bytes count blocks listed ≡ [] → All (λ a. move_target blocks a ≡ None) listed
none_left blocks [] bytes count none = All-nil (λ a. move_target blocks a ≡ None)
none_left blocks (a ∷ rest) bytes count none = go (move_target blocks a) refl none (none_left blocks rest bytes count)
  where
    go : (o : Option BlockStart) → move_target blocks a ≡ o → after_target 0 0 0 bytes count blocks a rest o ≡ [] → (moves_from 0 0 bytes count blocks rest ≡ [] → All (λ b. move_target blocks b ≡ None) rest)
        → All (λ b. move_target blocks b ≡ None) (a ∷ rest)
    go None e is more = All-cons (λ b. move_target blocks b ≡ None) a rest e (more is)
    go (Some s) e is more = absurd cc

all_passed : (blocks : List Numbered) (listed : List Resident) (bytes count : ℕ) → All (λ a. move_target blocks a ≡ None) listed → moves_from 0 0 bytes count blocks listed ≡ []
all_passed blocks [] bytes count none = refl
all_passed blocks (a ∷ rest) bytes count none =
    ap (after_target 0 0 0 bytes count blocks a rest) (All-head (λ b. move_target blocks b ≡ None) a rest none) ∙ (all_passed blocks rest bytes count (All-tail (λ b. move_target blocks b ≡ None) a rest none))

pub no_moves_left : NoMovesLeft
no_moves_left blocks listed = (none_left blocks listed 0 0, all_passed blocks listed 0 0)
