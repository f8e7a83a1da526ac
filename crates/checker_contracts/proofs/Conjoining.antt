-- A Conjunction: its two sides, one after the other, then 36 and 38. The left side's table stands at `free`, the right side's 64 words after it.
use mathlib.Core.Path.{◌≡◌, refl, sym, ap, subst, ◌∙◌}
use mathlib.Core.Bool.{Bool, true, false}
use mathlib.Core.List.{List, [], ◌∷◌, ◌++◌}
use Prim.Native.Nat.{ℕ, zero, suc, ◌+◌, ◌*◌, ◌-◌, ◌≤◌, ◌<◌, ◌^◌}
use native.Mathlib.Omega.{arith}
use borrow.Author.Tests.{lt-ltb, le-ltb}
use lib.Dec.{ltb}
use lib.ListN.{length, get_or, length-append}
use lib.Seq.{length-sets}
use Rattle.reader_rules.specs.Limited.{LimitedSchema}
use Rattle.reader_rules.specs.Tree.{Schema, both}
use Rattle.reader_rules.specs.TreeNumbers.{schema_numbers}
use Rattle.types_rules.specs.Types.{Term}
use Rattle.checker_rules.specs.Conditions.{merge_names, few_names, refuse_if}
use Rattle.checker_rules.specs.Dictionary.{Dictionary}
use Rattle.checker_rules.specs.Items.{Items, skip, refusal, ◌⨾◌, Meets, Refuses, MeetsIn}
use Rattle.checker_rules.specs.Rules.{schema_items}
use Rattle.checker_rules.specs.Scopes.{Scope, schema_signature}
use Rattle.checker_rules.specs.Signatures.{Signature, count_names, merge}
use Rattle.checker_rules.specs.Unknowns.{Valuation}
use Rattle.checker_signatures.specs.Rows.{rows, flat, merge_rows}
use Rattle.checker_signatures.specs.Carried.{Carries}
use Rattle.checker_signatures.specs.Tables.{Table as Written, table_words}
use Rattle.checker_signatures.proofs.CallLaws.{carried}
use Rattle.checker_signatures.proofs.RowLaws.{get_d_below}
use Rattle.checker_signatures.proofs.CarryLaws.{carries_other, carries_merge, carries_count}
use Rattle.checker_merging.specs.Merging.{TypedAt, RowsTold}
use Rattle.types_instances.specs.Clean.{Clean}
use Rattle.checker_pieces.specs.Piece.{Steady, Walked}
use Rattle.checker_pieces.proofs.Between.{walked_mine}
use Rattle.checker_lookup.specs.Scoped.{Scoped}
use Rattle.checker_includes.specs.Components.{Placed}
use Rattle.checker_includes.specs.Storing.{Stored}
use Rattle.checker_contracts.specs.Room.{frames_at, path_type_words, pool_end}
use Rattle.checker_contracts.specs.Predicates.{Walking}
use Rattle.checker_contracts.specs.Schemas.{SchemaAsk, SchemaWent, SchemaDone}
use Rattle.checker_contracts.specs.Visits.{Owned, Fresh, EachOnce, idle, Spared}
use Rattle.checker_contracts.proofs.Nodes.{fresh_left, fresh_after, once_left, once_right, owned_left, owned_right}
use Rattle.checker_contracts.proofs.Passing.{walking_first}
use Rattle.checker_contracts.proofs.Rooms.{between_part, crowd_part}
use Rattle.checker_contracts.proofs.Scopes.{scoped_stored, scoped_spared, scoped_walked, carries_stored, carries_spared, carries_walked, carries_later, spared_on, spared_less, stored_on}
use Rattle.checker_contracts.proofs.Counting.{few_noted, few_refused}
use Rattle.checker_contracts.proofs.ItemOrder.{Order, only, ◌then◌, grouped, listed, after, AllPass, AllWalked, refuses_at, all_walked}
use Rattle.checker_contracts.proofs.Refused.{done_refused}
use Rattle.types_cells.specs.Layout.{area_size, type_words}

-- What holds of both sides, before anything is merged.
abbrev pub Sides : Items → Schema → Schema → Scope → Items
Sides H a b Γ = (H ⨾ schema_items a Γ) ⨾ schema_items b Γ

-- Both sides' items pass after H. The left table stood in the areas s, w before the right side was visited, the right one stands in s', w'.
pub record Paired (s s' d w w' : List ℕ) (m n free : ℕ) (H : Items) (U : List ℕ) (Γ : Scope) (a b : Schema) : Type 0 where
  pub middle : List ℕ
  pub first : Walked H (schema_items a Γ) U middle (Owned (schema_numbers a))
  pub unknowns : List ℕ
  pub second : Walked (H ⨾ schema_items a Γ) (schema_items b Γ) middle unknowns (Owned (schema_numbers b))
  pub left : Carries (Placed s d (Sides H a b Γ) unknowns) (schema_signature a Γ) (rows w free m)
  pub right : Carries (Placed s' d (Sides H a b Γ) unknowns) (schema_signature b Γ) (rows w' (free + table_words) n)

typed_rows : (s d : List ℕ) (H : Items) (U : List ℕ) (r : Signature) (rs : List (ℕ × ℕ)) → Carries (Placed s d H U) r rs → Carries (TypedAt s d H U) r rs
typed_rows s d H U r rs C = carries_other (Placed s d H U) (TypedAt s d H U) (λ t p P. P.typed) r rs C

-- A table written at `base` leaves what is below.
pub spared_table : (w w' : List ℕ) (stack base : ℕ) (rs : List (ℕ × ℕ)) (n : ℕ) → 2 * stack ≤ base → frames_at ≤ base → Written w w' base rs n → Spared w w' stack base
spared_table w w' stack base rs n l low T = record {
  size = ap length T.words ∙ length-sets w base (flat rs);
  scope = λ i q. ap (λ z. get_or z i 0) T.words ∙ get_d_below (flat rs) w base i (omega arith);
  index = λ i p q. ap (λ z. get_or z i 0) T.words ∙ get_d_below (flat rs) w base i (omega arith);
  frames = λ i p q. ap (λ z. get_or z i 0) T.words ∙ get_d_below (flat rs) w base i q;
}

-- Items that bring no unknowns hold in every table that meets those before.
pub noted : (H c : Items) (U : List ℕ) (M : ℕ → Type 0) → Walked H c U U M → (τ : Valuation) → Meets H τ → Meets c τ
unfolding MeetsIn
noted H c U M W τ m = let x = W.extends τ m in (W.steady.local x.0 τ x.2 x.1).1

-- The items of a Conjunction in order: those of its sides, 36, 38 (checker_rules/specs/Rules, schema_items).
abbrev side_order : ℕ → Schema → Schema → Scope → Order
side_order k a b Γ =
    only (schema_items a Γ) then (only (schema_items b Γ) then (only (merge_names k (schema_signature b Γ) (schema_signature a Γ)) then only (few_names k (merge (schema_signature b Γ) (schema_signature a Γ)))))

module _ (s d w : List ℕ) (stack at free k : ℕ) (a b : Schema) (A : SchemaAsk s d w stack at free (both k a b)) where
  abbrev na : List ℕ
  na = schema_numbers a

  abbrev nb : List ℕ
  nb = schema_numbers b

  abbrev last : List ℕ
  last = k ∷ []

  high : 1 ≤ A.height
  unfolding LimitedSchema
  high = A.limited.0

  pub both_first : SchemaAsk s d w stack at free a
  unfolding LimitedSchema schema_numbers
  both_first = record {
    height = A.height - 1;
    texts = A.texts;
    limited = A.limited.1;
    walking =
        walking_first s d w stack at free (A.height - 1) (A.height - 1) na nb (omega arith)
        (walking_first s d w stack at free A.height (A.height - 1) (na ++ nb) last (omega arith) A.walking);
  }

  once : EachOnce (na ++ nb)
  unfolding schema_numbers
  once = once_left (na ++ nb) last A.walking.once

  fresh_first : (U : List ℕ) → Fresh (schema_numbers (both k a b)) U → Fresh na U
  unfolding schema_numbers
  fresh_first U F = fresh_left na nb U (fresh_left (na ++ nb) last U F)

  fresh_second : (U U' : List ℕ) (H c : Items) → Walked H c U U' (Owned na) → Fresh (schema_numbers (both k a b)) U → Fresh nb U'
  unfolding schema_numbers
  fresh_second U U' H c W F = fresh_after na nb U U' once (fresh_left (na ++ nb) last U F) W.new

  module _ (s₁ w₁ : List ℕ) (number place m at₁ : ℕ) (P : SchemaDone s s₁ d w w₁ stack at free a number place m at₁) where
    -- the finding of the left side
    pub both_first_stops : (number ≡ 0 → ⊥) → SchemaDone s s₁ d w w₁ stack at free (both k a b) number place m at₁
    unfolding schema_items grouped listed after AllPass
    both_first_stops z = record { done = done_refused P.done.still z (λ H U S Γ D C u F. refuses_at (side_order k a b Γ) H 0 number place tt (P.done.stops z H U S Γ D C tt (fresh_first U F))) }

    module _ (fine : number ≡ 0) where
      stored : Stored s s₁ at at₁
      stored = (P.done.areas fine).stored

      size₁ : length s₁ ≡ area_size
      size₁ = stored.size ∙ A.walking.size

      -- the pool's words so far
      pub low_enough : at₁ + 2 * path_type_words ≤ pool_end + 2 * path_type_words
      low_enough = let p = A.walking.room.pool in let q = (P.done.areas fine).short in let l = (P.done.areas fine).few in let o = high in omega arith

      pub some₁ : 1 ≤ at₁
      some₁ = let p = A.walking.room.some in let q = stored.more in omega arith

      went : (H : Items) (U : List ℕ) → Steady H U → (Γ : Scope) (D : Dictionary) → Scoped s d w stack (idle H U) Γ D → Fresh (schema_numbers (both k a b)) U → SchemaWent s₁ d w₁ m free H U Γ a
      went H U S Γ D C F = P.done.goes fine H U S Γ D C tt (fresh_first U F)

      scoped_left : (H : Items) (U : List ℕ) (Γ : Scope) (D : Dictionary) → Scoped s d w stack (idle H U) Γ D → (X : SchemaWent s₁ d w₁ m free H U Γ a) →
          Scoped s₁ d w₁ stack (idle (H ⨾ schema_items a Γ) X.unknowns) Γ D
      scoped_left H U Γ D C X =
          let p = A.walking.room.pool in
          scoped_spared s₁ d w w₁ stack free (idle (H ⨾ schema_items a Γ) X.unknowns) Γ D P.done.still
          (scoped_walked s₁ d w stack Γ D H (schema_items a Γ) U X.unknowns (Owned na) X.walked
          (scoped_stored s s₁ d at at₁ A.walking.size A.walking.clean A.walking.room.some (omega arith) stored w stack (idle H U) Γ D C))

      pub both_second : SchemaAsk s₁ d w₁ stack at₁ (free + table_words) b
      unfolding LimitedSchema schema_numbers
      both_second =
          let K = A.walking in
          let X = went K.before K.known K.steady K.scope K.dictionary K.scoped K.fresh in
          let o = high in
          let q = (P.done.areas fine).short in
          let l = (P.done.areas fine).few in
          let f = K.room.low in
          let e = length-append (na ++ nb) last in
          let e' = length-append na nb in
          let c = some₁ in
          record {
            height = A.height - 1;
            texts = A.texts;
            limited = A.limited.2;
            walking = record {
              before = K.before ⨾ schema_items a K.scope;
              known = X.unknowns;
              steady = X.walked.steady;
              scope = K.scope;
              dictionary = K.dictionary;
              scoped = scoped_left K.before K.known K.scope K.dictionary K.scoped X;
              fresh = fresh_second K.known X.unknowns K.before (schema_items a K.scope) X.walked K.fresh;
              once = once_right na nb once;
              size = size₁;
              few = K.few;
              clean = stored.after;
              bound = K.bound;
              crowd = crowd_part K.bound ((na ++ nb) ++ last) nb K.crowd (omega arith);
              room = between_part w w₁ stack stack at at₁ free (free + table_words) A.height (A.height - 1) K.bound K.bound K.room P.done.still.size (omega arith) (omega arith)
                  c (omega arith) (omega arith) (omega arith) (omega arith);
            };
          }

      module _ (s₂ w₂ : List ℕ) (number' place' n at₂ : ℕ) (Q : SchemaDone s₁ s₂ d w₁ w₂ stack at₁ (free + table_words) b number' place' n at₂) where
        pub both_spared : Spared w w₂ stack free
        both_spared = spared_on w w₁ w₂ stack free P.done.still (spared_less w₁ w₂ stack stack (free + table_words) free (omega arith) (omega arith) Q.done.still)

        -- the finding of the right side
        pub both_second_stops : (number' ≡ 0 → ⊥) → SchemaDone s s₂ d w w₂ stack at free (both k a b) number' place' n at₂
        unfolding schema_items grouped listed after AllPass
        both_second_stops z = record {
          done = done_refused both_spared z (λ H U S Γ D C u F.
              let X = went H U S Γ D C F in
              refuses_at (side_order k a b Γ) H 1 number' place' (X.walked.goes, tt)
              (Q.done.stops z (H ⨾ schema_items a Γ) X.unknowns X.walked.steady Γ D (scoped_left H U Γ D C X) tt (fresh_second U X.unknowns H (schema_items a Γ) X.walked F)));
        }

        module _ (fine' : number' ≡ 0) where
          stored' : Stored s₁ s₂ at₁ at₂
          stored' = (Q.done.areas fine').stored

          pub both_paired : (H : Items) (U : List ℕ) → Steady H U → (Γ : Scope) (D : Dictionary) → Scoped s d w stack (idle H U) Γ D → Fresh (schema_numbers (both k a b)) U →
              Paired s₁ s₂ d w₁ w₂ m n free H U Γ a b
          both_paired H U S Γ D C F =
              let X = went H U S Γ D C F in
              let Y = Q.done.goes fine' (H ⨾ schema_items a Γ) X.unknowns X.walked.steady Γ D (scoped_left H U Γ D C X) tt (fresh_second U X.unknowns H (schema_items a Γ) X.walked F) in
              record {
                middle = X.unknowns;
                first = X.walked;
                unknowns = Y.unknowns;
                second = Y.walked;
                left = carries_walked s₁ d (H ⨾ schema_items a Γ) (schema_items b Γ) X.unknowns Y.unknowns (Owned nb) Y.walked (schema_signature a Γ) (rows w₁ free m) X.signature;
                right = Y.signature;
              }

          -- The left table in later areas, where the words below at₁ and the table's rows stay.
          pub left_later : (s₃ w₃ : List ℕ) (at₃ : ℕ) → Stored s₁ s₃ at₁ at₃ → Spared w₁ w₃ stack (free + table_words) → (H : Items) (U : List ℕ) (Γ : Scope) (Z : Paired s₁ s₂ d w₁ w₂ m n free H U Γ a b) →
              Carries (Placed s₃ d (Sides H a b Γ) Z.unknowns) (schema_signature a Γ) (rows w₃ free m)
          left_later s₃ w₃ at₃ T E H U Γ Z =
              let l = (P.done.areas fine).few in
              let o = low_enough in
              carries_spared w₁ w₃ stack (free + table_words) free m (Placed s₃ d (Sides H a b Γ) Z.unknowns) (schema_signature a Γ) E A.walking.room.low (omega arith)
              (carries_stored s₁ s₃ d at₁ at₃ size₁ stored.after some₁ (omega arith) T (Sides H a b Γ) Z.unknowns (schema_signature a Γ) (rows w₁ free m) Z.left)

          module _ (H : Items) (U : List ℕ) (Γ : Scope) (Z : Paired s₁ s₂ d w₁ w₂ m n free H U Γ a b) where
            pub left_now : Carries (TypedAt s₂ d (Sides H a b Γ) Z.unknowns) (schema_signature a Γ) (rows w₂ free m)
            left_now = typed_rows s₂ d (Sides H a b Γ) Z.unknowns (schema_signature a Γ) (rows w₂ free m) (left_later s₂ w₂ at₂ stored' Q.done.still H U Γ Z)

            pub right_now : Carries (TypedAt s₂ d (Sides H a b Γ) Z.unknowns) (schema_signature b Γ) (rows w₂ (free + table_words) n)
            right_now = typed_rows s₂ d (Sides H a b Γ) Z.unknowns (schema_signature b Γ) (rows w₂ (free + table_words) n) Z.right

          -- 36
          pub both_clash : RowsTold s₂ d w₂ free m (free + table_words) n false → (m' at' : ℕ) → SchemaDone s s₂ d w w₂ stack at free (both k a b) 36 k m' at'
          unfolding schema_items grouped listed after AllPass
          both_clash T m' at' = record {
            done = done_refused both_spared (λ e. omega arith) (λ H U S Γ D C u F.
                let Z = both_paired H U S Γ D C F in
                refuses_at (side_order k a b Γ) H 2 36 k (Z.first.goes, (Z.second.goes, tt))
                (T.stops refl (Sides H a b Γ) Z.unknowns k (schema_signature b Γ) (schema_signature a Γ) Z.second.steady (right_now H U Γ Z) (left_now H U Γ Z)));
          }

          -- AFTER 36. The right side's rows have their types in s₃, w₃, and both tables are merged in w₄.
          module _ (T : RowsTold s₂ d w₂ free m (free + table_words) n true) (s₃ w₃ w₄ : List ℕ) (r e : ℕ) (E : Spared w₁ w₃ stack (free + table_words)) (B : Stored s₁ s₃ at₁ e)
              (kept : (H : Items) (U : List ℕ) (Γ : Scope) (Z : Paired s₁ s₂ d w₁ w₂ m n free H U Γ a b) →
              ((τ : Valuation) → Meets (Sides H a b Γ) τ → Meets (merge_names k (schema_signature b Γ) (schema_signature a Γ)) τ) →
              Carries (Placed s₃ d (Sides H a b Γ) Z.unknowns) (schema_signature b Γ) (rows w₃ (free + table_words) n))
              (W : Written w₃ w₄ free (merge_rows (rows w₃ (free + table_words) n) (rows w₃ free m)) r) where
            spared₄ : Spared w w₄ stack free
            spared₄ =
                let f = A.walking.room.low in
                let q = A.walking.room.stack in
                spared_on w w₁ w₄ stack free P.done.still
                (spared_on w₁ w₃ w₄ stack free (spared_less w₁ w₃ stack stack (free + table_words) free (omega arith) (omega arith) E)
                (spared_table w₃ w₄ stack free (merge_rows (rows w₃ (free + table_words) n) (rows w₃ free m)) r (omega arith) (omega arith) W))

            module _ (H : Items) (U : List ℕ) (Γ : Scope) (Z : Paired s₁ s₂ d w₁ w₂ m n free H U Γ a b) where
              abbrev met : Items
              met = merge_names k (schema_signature b Γ) (schema_signature a Γ)

              abbrev joined : Signature
              joined = merge (schema_signature b Γ) (schema_signature a Γ)

              agreed : Walked (Sides H a b Γ) met Z.unknowns Z.unknowns (λ x. ⊥)
              agreed = T.goes refl (Sides H a b Γ) Z.unknowns k (schema_signature b Γ) (schema_signature a Γ) Z.second.steady (right_now H U Γ Z) (left_now H U Γ Z)

              merged : Carries (Placed s₃ d (Sides H a b Γ) Z.unknowns) joined (merge_rows (rows w₃ (free + table_words) n) (rows w₃ free m))
              merged =
                  carries_merge (Placed s₃ d (Sides H a b Γ) Z.unknowns) (schema_signature b Γ) (schema_signature a Γ) (rows w₃ (free + table_words) n) (rows w₃ free m)
                  (kept H U Γ Z (noted (Sides H a b Γ) met Z.unknowns (λ x. ⊥) agreed)) (left_later s₃ w₃ e B E H U Γ Z)

              counted : count_names joined ≡ r
              counted = carries_count (Placed s₃ d (Sides H a b Γ) Z.unknowns) joined (merge_rows (rows w₃ (free + table_words) n) (rows w₃ free m)) merged ∙ sym W.count

            -- 38
            pub both_many : 16 < r → (m' at' : ℕ) → SchemaDone s s₃ d w w₄ stack at free (both k a b) 38 k m' at'
            unfolding schema_items grouped listed after AllPass
            both_many l m' at' = record {
              done = done_refused spared₄ (λ x. omega arith) (λ H U S Γ D C u F.
                  let Z = both_paired H U S Γ D C F in
                  let G = agreed H U Γ Z in
                  let c = counted H U Γ Z in
                  refuses_at (side_order k a b Γ) H 3 38 k (Z.first.goes, (Z.second.goes, (G.goes, tt))) (few_refused (Sides H a b Γ ⨾ met H U Γ Z) k (joined H U Γ Z) (omega arith)));
            }

            pub both_done : r ≤ 16 → m ≤ r → e ≤ at₁ + type_words * (r - m) → SchemaDone s s₃ d w w₄ stack at free (both k a b) 0 k r e
            unfolding schema_items schema_signature schema_numbers MeetsIn grouped listed AllWalked
            both_done l q h = record {
              done = record {
                still = spared₄;
                areas = λ x. record {
                  stored = stored_on s s₁ s₃ at at₁ e stored B;
                  short = let y = (P.done.areas fine).short in omega arith;
                  few = l;
                };
                goes = λ x H U S Γ D C u F.
                    let Z = both_paired H U S Γ D C F in
                    let G = agreed H U Γ Z in
                    let c = counted H U Γ Z in
                    let N = (na ++ nb) ++ last in
                    let sa = schema_items a Γ in
                    let sb = schema_items b Γ in
                    let M = met H U Γ Z in
                    let O = few_names k (joined H U Γ Z) in
                    let y = P.done.still.size in
                    let z = E.size in
                    let g = A.walking.room.frames in
                    let u = A.walking.room.wide in
                    record {
                      unknowns = Z.unknowns;
                      walked =
                          all_walked (side_order k a b Γ) H U Z.unknowns (Owned N) S (
                            Z.middle,
                            walked_mine H sa U Z.middle (Owned na) (Owned N) (λ i o. owned_left (na ++ nb) last i (owned_left na nb i o)) Z.first,
                            (
                              Z.unknowns,
                              walked_mine (H ⨾ sa) sb Z.middle Z.unknowns (Owned nb) (Owned N) (λ i o. owned_left (na ++ nb) last i (owned_right na nb i o)) Z.second,
                              (
                                Z.unknowns,
                                walked_mine (Sides H a b Γ) M Z.unknowns Z.unknowns (λ i. ⊥) (Owned N) (λ i o. absurd o) G,
                                (
                                  Z.unknowns,
                                  few_noted (Sides H a b Γ ⨾ M) Z.unknowns (Owned N) k (joined H U Γ Z) G.steady (omega arith),
                                  refl,
                                ),
                              ),
                            ),
                          );
                      signature =
                          carries_later s₃ d (Sides H a b Γ) (H ⨾ (sa ⨾ (sb ⨾ (M ⨾ O)))) Z.unknowns Z.unknowns (λ i j. j) (λ τ j. ((j.0, j.1.0), j.1.1.0)) (joined H U Γ Z) (rows w₄ free r)
                          (carried (Placed s₃ d (Sides H a b Γ) Z.unknowns) w₃ w₄ free (merge_rows (rows w₃ (free + table_words) n) (rows w₃ free m)) r (joined H U Γ Z) W (omega arith) (merged H U Γ Z));
                    };
                stops = λ x. absurd (x refl);
              };
            }
