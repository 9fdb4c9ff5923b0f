-- Going through the runs of a range until one is found.
use Rattle.std.proofs.Common.{◌≡◌, ◌<◌, ◌≤◌, ℕ, List, ◌∷◌, sym, subst, Option, inl, inr, arith}
use Rattle.std.specs.Prelude.{slice_get}
use Rattle.std.specs.Option.{IsSomeAnd}
use Rattle.std.proofs.lemmas.Bool.{cases_lt}
use Rattle.vk_ranges.specs.Overlaps.{Piece, AreRunsOf}

module _ {T : Type 0} where
  -- The value of an index is one of these.
  abbrev pub HasAt : List T → (T → Type 0) → ℕ → Type 0
  HasAt values P index = IsSomeAnd (slice_get values index) P

  pub record IsSearched (values : List T) (fails : T → Type 0) (low high : ℕ) (rest : List (Piece T)) : Type 0 where
    pub cursor : ℕ
    pub above : low ≤ cursor
    pub runs : AreRunsOf values cursor high rest
    pub none : (index : ℕ) → low ≤ index → index < cursor → HasAt values fails index

  module _ (values : List T) (fails : T → Type 0) (low high : ℕ) (piece : Piece T) (rest : List (Piece T)) (so_far : IsSearched values fails low high (piece ∷ rest)) where
    at_piece : (P : T → Type 0) → P piece.value → (index : ℕ) → so_far.cursor ≤ index → index < piece.end → HasAt values P index
    at_piece P holds index from to =
        let start : piece.start ≡ so_far.cursor = so_far.runs.0 in
        subst (λ (o : Option T). IsSomeAnd o P) (sym (so_far.runs.3 index (omega arith) to)) holds

    pub search_found : (P : T → Type 0) → P piece.value → HasAt values P piece.start
    search_found P holds =
        let start : piece.start ≡ so_far.cursor = so_far.runs.0 in
        let some = so_far.runs.1 in
        at_piece P holds piece.start (omega arith) (omega arith)

    pub search_next : fails piece.value → IsSearched values fails low high rest
    search_next failed =
        let above = so_far.above in
        let some = so_far.runs.1 in
        record {
          cursor = piece.end;
          above = omega arith;
          runs = so_far.runs.5;
          none = λ index from to. elim (cases_lt index so_far.cursor) [
            | inl before ↦ so_far.none index from before
            | inr here ↦ at_piece fails failed index here to
          ];
        }
