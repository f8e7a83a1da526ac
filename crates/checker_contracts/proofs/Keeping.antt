-- A Conjunction after both sides: what its rows ask, and what their merge comes to.
use mathlib.Core.Path.{◌≡◌, refl, sym, ap, subst, ◌∙◌}
use mathlib.Core.Bool.{true, false}
use mathlib.Core.List.{List, [], ◌∷◌, ◌++◌}
use mathlib.Core.Logic.{◌⊎◌, inl, inr, ⊎_elim}
use Prim.Native.Nat.{ℕ, zero, suc, ◌+◌, ◌*◌, ◌-◌, ◌≤◌, ◌<◌, ◌^◌}
use native.Mathlib.Omega.{arith}
use lib.ListN.{length, get_or}
use Rattle.reader_rules.specs.Limited.{LimitedSchema}
use Rattle.reader_rules.specs.Tree.{Schema, both}
use Rattle.reader_rules.specs.TreeNumbers.{schema_numbers}
use Rattle.types_rules.specs.Formed.{Ascending}
use Rattle.types_rules.specs.Types.{Ty, Tys, tnil, tcons, Term, under, size}
use Rattle.checker_rules.specs.Check.{check_work_words}
use Rattle.checker_rules.specs.Conditions.{merge_names, small_types}
use Rattle.checker_rules.specs.Dictionary.{Dictionary}
use Rattle.checker_rules.specs.Items.{Items, Meets, MeetsIn}
use Rattle.checker_rules.specs.Scopes.{Scope, schema_signature}
use Rattle.checker_rules.specs.Signatures.{Signature, no_names, naming, names_of}
use Rattle.checker_rules.specs.Unknowns.{Valuation}
use Rattle.checker_rules.proofs.FormedScopes.{schema_rising}
use Rattle.types_cells.specs.Layout.{area_size}
use Rattle.types_cells.specs.Settled.{heap, Reads, Areas}
use Rattle.types_cells.proofs.Reading.{reads_one}
use Rattle.checker_signatures.specs.Tables.{table_words}
use Rattle.checker_signatures.specs.Rows.{rows, identifiers_of, merge_rows, has_row}
use Rattle.checker_signatures.specs.Carried.{Carries}
use Rattle.checker_signatures.proofs.CarryLaws.{carries_names}
use Rattle.checker_signatures.proofs.RowLaws.{rows_kept, rows_length_lem}
use Rattle.checker_merging.specs.Merging.{RowsAsk}
use Rattle.types_instances.specs.Clean.{Clean}
use Rattle.types_instances.specs.Fill.{fill}
use Rattle.types_instances.specs.Filled.{Row}
use Rattle.types_instances.specs.Moved.{Below}
use Rattle.types_instances.proofs.CleanLaws.{clean_below}
use Rattle.types_instances.proofs.FillLaws.{fill_none}
use Rattle.checker_lookup.specs.Scoped.{Scoped}
use Rattle.checker_pieces.specs.Piece.{Steady}
use Rattle.checker_includes.specs.Components.{Placed, AllStandFor}
use Rattle.checker_includes.specs.NewRows.{new_rows}
use Rattle.checker_includes.specs.Storing.{Stored, KeepAsk, RowsKept}
use Rattle.checker_includes.proofs.FillsLaws.{placed_fill}
use Rattle.checker_includes.proofs.NewRowLaws.{merged_length}
use Rattle.checker_contracts.specs.Room.{frames_end, frame_words, path_type_words, pool_end}
use Rattle.checker_contracts.specs.Joining.{JoinAsk, Clashing, Uniting, Joined}
use Rattle.checker_contracts.specs.Schemas.{SchemaAsk, SchemaDone}
use Rattle.checker_contracts.specs.Visits.{Fresh, idle, Spared}
use Rattle.checker_contracts.proofs.Conjoining.{Sides, Paired, low_enough, some₁, both_paired, left_later, left_now, right_now, noted, both_clash, both_many, both_done}
use Rattle.checker_contracts.proofs.Scopes.{stored_reads, spared_on}
use Rattle.checker_contracts.proofs.TableRows.{carries_row, rows_ready}

-- Placed types are small.
placed_small : (s d : List ℕ) (H : Items) (U : List ℕ) (n : ℕ) (q : Signature) (rs : List (ℕ × ℕ)) → Carries (Placed s d H U) q rs → (τ : Valuation) → Meets H τ → Meets (small_types n q) τ
unfolding Carries small_types MeetsIn
placed_small s d H U n no_names rs C τ m = tt
placed_small s d H U n (naming i t q) [] C τ m = absurd C
placed_small s d H U n (naming i t q) (r ∷ rs) C τ m =
    (subst (λ z. size z ≤ 32) (sym (C.1.typed.settled τ m)) C.1.small, placed_small s d H U n q rs C.2 τ m)

-- New rows are counted by their identifiers.
new_names_lem : (xs ys rs : List (ℕ × ℕ)) → identifiers_of xs ≡ identifiers_of ys → new_rows xs rs ≡ new_rows ys rs
unfolding new_rows identifiers_of
new_names_lem [] [] rs e = refl
new_names_lem [] (y ∷ ys) rs e = let z : ◌≡◌ {A = ℕ} 0 1 = cc in absurd (omega arith)
new_names_lem (x ∷ xs) [] rs e = let z : ◌≡◌ {A = ℕ} 0 1 = cc in absurd (omega arith)
new_names_lem (x ∷ xs) (y ∷ ys) rs e =
    let a : x.0 ≡ y.0 = cc in
    let b : identifiers_of xs ≡ identifiers_of ys = cc in
    let c = new_names_lem xs ys rs b in
    cc

module _ (s d w : List ℕ) (stack at free k : ℕ) (a b : Schema) (A : SchemaAsk s d w stack at free (both k a b))
    (s₁ w₁ : List ℕ) (number place m at₁ : ℕ) (P : SchemaDone s s₁ d w w₁ stack at free a number place m at₁) (fine : number ≡ 0)
    (s₂ w₂ : List ℕ) (number' place' n at₂ : ℕ) (Q : SchemaDone s₁ s₂ d w₁ w₂ stack at₁ (free + table_words) b number' place' n at₂) (fine' : number' ≡ 0) where
  stored : Stored s₁ s₂ at₁ at₂
  stored = (Q.done.areas fine').stored

  size₁ : length s₁ ≡ area_size
  size₁ = (P.done.areas fine).stored.size ∙ A.walking.size

  size₂ : length s₂ ≡ area_size
  size₂ = stored.size ∙ size₁

  wide : check_work_words ≤ length w₂
  wide = let x = A.walking.room.wide in let y = P.done.still.size in let z = Q.done.still.size in omega arith

  high : 1 ≤ A.height
  unfolding LimitedSchema
  high = A.limited.0

  frames : free + frame_words ≤ frames_end
  frames = let x = A.walking.room.frames in let z = high in omega arith

  low : at₁ + 2 * path_type_words ≤ pool_end + 2 * path_type_words
  low = low_enough s d w stack at free k a b A s₁ w₁ number place m at₁ P fine

  one : 1 ≤ at₁
  one = some₁ s d w stack at free k a b A s₁ w₁ number place m at₁ P fine

  paired : (H : Items) (U : List ℕ) → Steady H U → (Γ : Scope) (D : Dictionary) → Scoped s d w stack (idle H U) Γ D → Fresh (schema_numbers (both k a b)) U →
      Paired s₁ s₂ d w₁ w₂ m n free H U Γ a b
  paired = both_paired s d w stack at free k a b A s₁ w₁ number place m at₁ P fine s₂ w₂ number' place' n at₂ Q fine'

  module _ (H : Items) (U : List ℕ) (Γ : Scope) (Z : Paired s₁ s₂ d w₁ w₂ m n free H U Γ a b) where
    abbrev R₂ : Term → ℕ → Type 0
    R₂ = Placed s₂ d (Sides H a b Γ) Z.unknowns

    left₂ : Carries R₂ (schema_signature a Γ) (rows w₂ free m)
    left₂ = left_later s d w stack at free k a b A s₁ w₁ number place m at₁ P fine s₂ w₂ number' place' n at₂ Q fine' s₂ w₂ at₂ stored Q.done.still H U Γ Z

    agree_asked : RowsAsk s₂ d w₂ free m (free + table_words) n
    agree_asked =
        let x = wide in
        let y = frames in
        let l = (P.done.areas fine).few in
        let r = (Q.done.areas fine').few in
        let z = A.walking.few in
        record {
          areas = record { size = size₂; few = omega arith };
          table = rows_ready s₂ d w₂ free m (Sides H a b Γ) Z.unknowns (schema_signature a Γ) left₂ (omega arith);
          others = rows_ready s₂ d w₂ (free + table_words) n (Sides H a b Γ) Z.unknowns (schema_signature b Γ) Z.right (omega arith);
        }

    sizes : (j : ℕ) → j < n → (g : Ty) (hs : Tys) → Reads (heap s₂ d) (get_or w₂ (free + table_words + 2 * j + 1) 0) g → Row (heap s₂ d) [] hs → size (fill hs g) ≤ 32
    sizes j l g tnil R S =
        let X = carries_row R₂ (schema_signature b Γ) w₂ (free + table_words) n j Z.right l in
        subst (λ z. size z ≤ 32) (reads_one (heap s₂ d) (get_or w₂ (free + table_words + 2 * j + 1) 0) X.1.typed.type g X.1.typed.reads R ∙ sym (fill_none g)) X.1.small
    sizes j l g (tcons h hs) R S = absurd S

    below : (j : ℕ) → j < m → (g : Ty) → Reads (heap s₂ d) (get_or w₂ (free + 2 * j + 1) 0) g → Below at₁ (get_or w₂ (free + 2 * j + 1) 0) g
    below j l g R =
        let o = low in
        let c = (P.done.areas fine).few in
        let f = A.walking.room.low in
        let X = carries_row (Placed s₁ d (Sides H a b Γ) Z.unknowns) (schema_signature a Γ) w₁ free m j Z.left l in
        let e = Q.done.still.frames (free + 2 * j + 1) (omega arith) (omega arith) in
        let B₁ = clean_below s₁ d at₁ (get_or w₁ (free + 2 * j + 1) 0) X.1.typed.type size₁ one (omega arith) (P.done.areas fine).stored.after X.1.typed.reads in
        let R₁ = stored_reads s₁ s₂ d at₁ at₂ size₁ (P.done.areas fine).stored.after one (omega arith) stored (get_or w₁ (free + 2 * j + 1) 0) X.1.typed.type X.1.typed.reads in
        let same = reads_one (heap s₂ d) (get_or w₂ (free + 2 * j + 1) 0) X.1.typed.type g (subst (λ z. Reads (heap s₂ d) z X.1.typed.type) (sym e) R₁) R in
        subst (Below at₁ (get_or w₂ (free + 2 * j + 1) 0)) same (subst (λ z. Below at₁ z X.1.typed.type) (sym e) B₁)

    keep_asked : KeepAsk s₂ d w₂ free m (free + table_words) n [] at₁ at₂ (free + frame_words)
    keep_asked =
        let x = wide in
        let y = frames in
        let l = (P.done.areas fine).few in
        let r = (Q.done.areas fine').few in
        let q = (Q.done.areas fine').short in
        let o = low in
        record {
          actuals = record { areas = agree_asked.areas; types = tnil; stand = tt };
          rows = agree_asked.others;
          sizes = sizes;
          table = agree_asked.table;
          below = below;
          many = r;
          clean = stored.after;
          gap = λ i e. stored.before i (omega arith) ∙ (P.done.areas fine).stored.after i (omega arith) (omega arith);
          some = one;
          before = stored.more;
          room = omega arith;
          scratch = omega arith;
          near = omega arith;
          beside = (omega arith, omega arith);
          apart = inl (omega arith);
        }

  pub join_asked : JoinAsk s₂ d w₂ free m n at₁ at₂
  join_asked =
      let K = A.walking in
      let Z = paired K.before K.known K.steady K.scope K.dictionary K.scoped K.fresh in
      record { few = (P.done.areas fine).few; agree = agree_asked K.before K.known K.scope Z; keep = keep_asked K.before K.known K.scope Z }

  -- The right side's rows once their types are kept.
  module _ (s₃ w₃ : List ℕ) (last : ℕ) (T : RowsKept s₂ s₃ d w₂ w₃ free m (free + table_words) n [] at₁ at₂ (free + frame_words) last) where
    spared₃ : Spared w₁ w₃ stack (free + table_words)
    spared₃ =
        let q = A.walking.room.stack in
        let f = A.walking.room.low in
        spared_on w₁ w₂ w₃ stack (free + table_words) Q.done.still
        (record {
          size = T.size;
          scope = λ i l. T.words i (omega arith) (λ j o e. omega arith);
          index = λ i l h. T.words i (omega arith) (λ j o e. omega arith);
          frames = λ i l h. T.words i (omega arith) (λ j o e. omega arith);
        })

    stored₃ : Stored s₁ s₃ at₁ last
    stored₃ = record {
      size = T.stored.size ∙ stored.size;
      before = λ i l. T.stored.before i l ∙ stored.before i l;
      after = T.stored.after;
      more = T.stored.more;
    }

    rows₃ : rows w₃ free m ≡ rows w₂ free m
    rows₃ = let l = (P.done.areas fine).few in rows_kept w₂ w₃ free m (λ i x y. T.words i (omega arith) (λ j o e. omega arith))

    kept : (H : Items) (U : List ℕ) (Γ : Scope) (Z : Paired s₁ s₂ d w₁ w₂ m n free H U Γ a b) →
        ((τ : Valuation) → Meets (Sides H a b Γ) τ → Meets (merge_names k (schema_signature b Γ) (schema_signature a Γ)) τ) →
        Carries (Placed s₃ d (Sides H a b Γ) Z.unknowns) (schema_signature b Γ) (rows w₃ (free + table_words) n)
    unfolding AllStandFor
    kept H U Γ Z M =
        T.placed (Sides H a b Γ) Z.unknowns k (schema_signature b Γ) (schema_signature a Γ) tnil tnil tt tt
        (placed_fill s₂ d (Sides H a b Γ) Z.unknowns (schema_signature b Γ) (rows w₂ (free + table_words) n) Z.right) (left₂ H U Γ Z) M
        (placed_small s₂ d (Sides H a b Γ) Z.unknowns k (schema_signature b Γ) (rows w₂ (free + table_words) n) Z.right) Z.second.steady

    module _ (H : Items) (U : List ℕ) (Γ : Scope) (Z : Paired s₁ s₂ d w₁ w₂ m n free H U Γ a b)
        (M : (τ : Valuation) → Meets (Sides H a b Γ) τ → Meets (merge_names k (schema_signature b Γ) (schema_signature a Γ)) τ) where
      names₂ : names_of (schema_signature b Γ) ≡ identifiers_of (rows w₂ (free + table_words) n)
      names₂ = carries_names (Placed s₂ d (Sides H a b Γ) Z.unknowns) (schema_signature b Γ) (rows w₂ (free + table_words) n) Z.right

      names₃ : names_of (schema_signature b Γ) ≡ identifiers_of (rows w₃ (free + table_words) n)
      names₃ = carries_names (Placed s₃ d (Sides H a b Γ) Z.unknowns) (schema_signature b Γ) (rows w₃ (free + table_words) n) (kept H U Γ Z M)

      names_left : names_of (schema_signature a Γ) ≡ identifiers_of (rows w₂ free m)
      names_left = carries_names R₂' (schema_signature a Γ) (rows w₂ free m) (left₂ H U Γ Z)
        where
          R₂' : Term → ℕ → Type 0
          R₂' = Placed s₂ d (Sides H a b Γ) Z.unknowns

      grown : length (merge_rows (rows w₃ (free + table_words) n) (rows w₃ free m)) ≡ m + new_rows (rows w₂ (free + table_words) n) (rows w₂ free m)
      grown =
          ap (λ l. length (merge_rows (rows w₃ (free + table_words) n) l)) rows₃
          ∙ merged_length (rows w₃ (free + table_words) n) (rows w₂ free m) (subst Ascending names₃ (schema_rising b Γ)) (subst Ascending names_left (schema_rising a Γ))
          ∙ ap (λ j. length (rows w₂ free m) + j) (new_names_lem (rows w₃ (free + table_words) n) (rows w₂ (free + table_words) n) (rows w₂ free m) (sym names₃ ∙ names₂))
          ∙ ap (λ j. j + new_rows (rows w₂ (free + table_words) n) (rows w₂ free m)) (rows_length_lem w₂ free m)

  pub both_joined : (s₃ w₃ : List ℕ) (f x c e : ℕ) → Joined s₂ s₃ d w₂ w₃ free m n at₁ at₂ k f x c e → SchemaDone s s₃ d w w₃ stack at free (both k a b) f x c e
  both_joined s₃ w₃ f x c e J = subst (λ z. SchemaDone s s₃ d w w₃ stack at free (both k a b) f z c e) (sym J.place_is) (⊎_elim clash unite J.found)
    where
      clash : Clashing s₂ s₃ d w₂ w₃ free m n f → SchemaDone s s₃ d w w₃ stack at free (both k a b) f k c e
      clash C =
          subst (λ z. SchemaDone s s₃ d w w₃ stack at free (both k a b) z k c e) (sym C.number_is)
          (subst (λ z. SchemaDone s z d w w₃ stack at free (both k a b) 36 k c e) (sym C.still)
          (subst (λ z. SchemaDone s s₂ d w z stack at free (both k a b) 36 k c e) (sym C.same)
          (both_clash s d w stack at free k a b A s₁ w₁ number place m at₁ P fine s₂ w₂ number' place' n at₂ Q fine' C.told c e)))

      unite : Uniting s₂ s₃ d w₂ w₃ free m n at₁ at₂ f c e → SchemaDone s s₃ d w w₃ stack at free (both k a b) f k c e
      unite B = ⊎_elim many done B.outcome
        where
          many : (f ≡ 38) × (16 < B.total) → SchemaDone s s₃ d w w₃ stack at free (both k a b) f k c e
          many o =
              subst (λ z. SchemaDone s s₃ d w w₃ stack at free (both k a b) z k c e) (sym o.0)
              (both_many s d w stack at free k a b A s₁ w₁ number place m at₁ P fine s₂ w₂ number' place' n at₂ Q fine' B.told s₃ B.between w₃ B.total B.last
              (spared₃ s₃ B.between B.last B.kept) (stored₃ s₃ B.between B.last B.kept) (kept s₃ B.between B.last B.kept) B.merged o.1 c e)

          counted : B.total ≡ m + new_rows (rows w₂ (free + table_words) n) (rows w₂ free m)
          counted =
              let K = A.walking in
              let Z = paired K.before K.known K.steady K.scope K.dictionary K.scoped K.fresh in
              B.merged.count
              ∙ grown s₃ B.between B.last B.kept K.before K.known K.scope Z
              (noted (Sides K.before a b K.scope) (merge_names k (schema_signature b K.scope) (schema_signature a K.scope)) Z.unknowns (λ y. ⊥)
              (B.told.goes refl (Sides K.before a b K.scope) Z.unknowns k (schema_signature b K.scope) (schema_signature a K.scope) Z.second.steady
              (right_now s d w stack at free k a b A s₁ w₁ number place m at₁ P fine s₂ w₂ number' place' n at₂ Q fine' K.before K.known K.scope Z)
              (left_now s d w stack at free k a b A s₁ w₁ number place m at₁ P fine s₂ w₂ number' place' n at₂ Q fine' K.before K.known K.scope Z)))

          done : (f ≡ 0) × (B.total ≤ 16) × (c ≡ B.total) × (e ≡ B.last) → SchemaDone s s₃ d w w₃ stack at free (both k a b) f k c e
          done o =
              let q = counted in
              let l = B.kept.new in
              subst (λ z. SchemaDone s s₃ d w w₃ stack at free (both k a b) z k c e) (sym o.0)
              (subst (λ z. SchemaDone s s₃ d w w₃ stack at free (both k a b) 0 k z e) (sym o.2)
              (subst (λ z. SchemaDone s s₃ d w w₃ stack at free (both k a b) 0 k B.total z) (sym o.3)
              (both_done s d w stack at free k a b A s₁ w₁ number place m at₁ P fine s₂ w₂ number' place' n at₂ Q fine' B.told s₃ B.between w₃ B.total B.last
              (spared₃ s₃ B.between B.last B.kept) (stored₃ s₃ B.between B.last B.kept) (kept s₃ B.between B.last B.kept) B.merged o.1 (omega arith) (omega arith))))
