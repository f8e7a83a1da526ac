-- A Decl by the words of its node.
use mathlib.Core.Path.{◌≡◌, refl, sym, ap, subst, ◌∙◌}
use mathlib.Core.Bool.{Bool, true, false}
use mathlib.Core.List.{List, [], ◌∷◌, ◌++◌}
use mathlib.Core.Logic.{inl}
use Prim.Native.Nat.{ℕ, ◌+◌, ◌*◌, ◌-◌, ◌≤◌, ◌<◌, ◌^◌}
use native.Mathlib.Omega.{arith}
use lib.ListN.{length, get_or, drop, replicate, length-drop}
use lib.Seq.{sets}
use Rattle.reader_rules.specs.Decode.{expr_at, line_at}
use Rattle.reader_rules.specs.Kinds.{expressions, lines, cell}
use Rattle.layout.specs.Layout.{part}
use Rattle.reader_rules.specs.Nodes.{kind_at}
use Rattle.reader_rules.specs.Promise.{Lower}
use Rattle.reader_rules.specs.Tree.{Lines, end, declaration}
use Rattle.reader_rules.specs.TreeNumbers.{expr_numbers, lines_numbers}
use Rattle.reader_rules.proofs.TreeCounts.{at_most}
use Rattle.reader_rules.proofs.TreeShape.{One}
use Rattle.reader_rules.proofs.TreeText.{line_declaration}
use Rattle.reader_rules.proofs.Sized.{SizedExpr}
use Rattle.types_cells.specs.Layout.{first_run, type_words}
use Rattle.types_cells.specs.Settled.{heap, Reads}
use Rattle.checker_signatures.specs.Rows.{rows, declare_rows}
use Rattle.checker_signatures.specs.Tables.{Table, table_words}
use Rattle.types_instances.proofs.Moving.{lower_words}
use Rattle.checker_merging.specs.Merging.{DeclaredAsk}
use Rattle.checker_pieces.specs.Building.{Powered, Working}
use Rattle.checker_pieces.specs.Closed.{Closing, Closed, Sizing, SizeIs}
use Rattle.checker_includes.specs.Storing.{Stored, StoreAsk, TypeStored}
use Rattle.checker_contracts.specs.Room.{frames_end, node_type_words, pool_end}
use Rattle.checker_contracts.specs.Expressions.{ExprAsk, ExprDone}
use Rattle.checker_contracts.specs.Texts.{LinesAsk, LinesDone}
use Rattle.checker_contracts.proofs.Nodes.{once_left, once_apart, fresh_left, unvisited, last_in}
use Rattle.checker_contracts.proofs.Scopes.{stored_reads}
use Rattle.checker_contracts.proofs.TableRows.{rows_ready}
use Rattle.checker_contracts.proofs.Elements.{element_done}
use Rattle.checker_contracts.proofs.Declaring.{decl_ask, decl_stopped, decl_working, decl_unequal, decl_closing, decl_several, decl_sizing, decl_size, decl_clean, decl_gap, decl_room}
use Rattle.checker_contracts.proofs.Declaring.{decl_clash, decl_global, decl_large, decl_many, decl_done, decl_kept}
use Rattle.checker_closing.specs.Declarations.{OwnTold, clash, known, large, none, EnterAsk, EnterTold, many, none_new, some_new}
use Rattle.checker_closing.specs.Declarations.{TypedAsk, TypedTold, untyped, refused, fits, DeclAsk, DeclTold, stopped, went}
use Rattle.checker_closing.specs.Elements.{TypeKept, several, one, ElementTold, no_power, power}
use Rattle.checker_closing.specs.Leaves.{FitsTold, NewIfTold}
use Rattle.checker_closing.specs.Nodes.{Node, LinedAt}
use Rattle.checker_closing.specs.declared.results.Lined.{Lined}
use Rattle.checker_nodes.proofs.LineNodes.{lines_told}
use Rattle.checker_nodes.proofs.SizedNodes.{expr_sized}
use Rattle.checker_rules.specs.Check.{check_work_words}
use Rattle.checker_nodes.proofs.NodeWords.{word_at_lem}

module _ {doc p s d w : List ℕ} {stack base m at free k : ℕ} (N : Node doc p lines k) (q : kind_at doc k ≡ 11) (a : ℕ) (word : a ≡ get_or p 1 0)
    (K : LinesAsk s d w stack base m at free (line_at doc k end)) (global : Bool) where
  O : One doc k expressions a ((ls : Lines) → line_at doc k ls ≡ declaration k (expr_at doc a) (drop 2 (part doc k)) ls)
  O = line_declaration doc k N.at q a (word_at_lem N 1 a word)

  tree : line_at doc k end ≡ declaration k (expr_at doc a) (drop 2 p) end
  tree = O.tree end ∙ ap (λ z. declaration k (expr_at doc a) (drop 2 z) end) (sym N.words)

  abbrev Q : LinesAsk s d w stack base m at free (declaration k (expr_at doc a) (drop 2 p) end)
  Q = subst (LinesAsk s d w stack base m at free) tree K

  back : (s' w' : List ℕ) (number place m' at' : ℕ) → LinesDone s s' d w w' stack base m at free (declaration k (expr_at doc a) (drop 2 p) end) global number place m' at' →
      LinesDone s s' d w w' stack base m at free (line_at doc k end) global number place m' at'
  back s' w' number place m' at' = subst (λ z. LinesDone s s' d w w' stack base m at free z global number place m' at') (sym tree)

  sized : SizedExpr (expr_at doc a)
  sized = expr_sized doc a O.first.at

  small : k < 2 ^ 32
  small = let z = N.at.small in omega arith

  pub node_decl_lower : Lower doc k expressions a
  node_decl_lower = O.first

  pub node_decl_ask : ExprAsk s d w stack 0 first_run at free (expr_at doc a)
  node_decl_ask = decl_ask s d w stack base m at free k (expr_at doc a) (drop 2 p) global Q

  module _ {s₁ w₁ : List ℕ} {number place cell c₁ top₁ at₁ : ℕ} (A : ExprDone s s₁ d w w₁ stack 0 first_run at free (expr_at doc a) number place cell c₁ top₁ at₁) where
    node_decl_stopped : (number ≡ 0 → ⊥) → {r : Lined} → LinedAt r number place 0 0 → LinesDone s s₁ d w w₁ stack base m at free (line_at doc k end) global r.number r.place r.count r.at
    node_decl_stopped ne {r} L = lines_told L (back s₁ w₁ number place 0 0
        (decl_stopped s d w stack base m at free k (expr_at doc a) (drop 2 p) global Q s₁ w₁ number place cell c₁ top₁ at₁ A ne 0 0))

    module _ (fine : number ≡ 0) where
      node_decl_working : Working s₁ d c₁ top₁ 2 (cell ∷ [])
      node_decl_working = decl_working s d w stack base m at free k (expr_at doc a) (drop 2 p) global Q s₁ w₁ number place cell c₁ top₁ at₁ A fine

      module _ {s₂ : List ℕ} {number₂ : ℕ} (P : Powered s₁ s₂ d c₁ top₁ cell number₂) where
        node_decl_unequal : (number₂ ≡ 0 → ⊥) → {r : Lined} → LinedAt r number₂ k 0 0 → LinesDone s s₂ d w w₁ stack base m at free (line_at doc k end) global r.number r.place r.count r.at
        node_decl_unequal ne {r} L = lines_told L (back s₂ w₁ number₂ k 0 0
            (decl_unequal s d w stack base m at free k (expr_at doc a) (drop 2 p) global Q s₁ w₁ number place cell c₁ top₁ at₁ A fine s₂ number₂ P ne 0 0))

        module _ (yes : number₂ ≡ 0) where
          node_decl_closing : Closing s₂ d (c₁ + 2)
          node_decl_closing = decl_closing s d w stack base m at free k (expr_at doc a) (drop 2 p) global Q s₁ w₁ number place cell c₁ top₁ at₁ A fine s₂ number₂ P yes

          module _ {s₃ : List ℕ} {o : Bool} (Z : Closed s₂ s₃ d (c₁ + 2) o) where
            node_decl_several : o ≡ false → {r : Lined} → LinedAt r 34 k 0 0 → LinesDone s s₃ d w w₁ stack base m at free (line_at doc k end) global r.number r.place r.count r.at
            node_decl_several nay {r} L = lines_told L (back s₃ w₁ 34 k 0 0
                (decl_several s d w stack base m at free k (expr_at doc a) (drop 2 p) global Q s₁ w₁ number place cell c₁ top₁ at₁ A fine s₂ number₂ P yes s₃ (subst (Closed s₂ s₃ d (c₁ + 2)) nay Z) 0 0))

            module _ (one : o ≡ true) where
              Z₁ : Closed s₂ s₃ d (c₁ + 2) true
              Z₁ = subst (Closed s₂ s₃ d (c₁ + 2)) one Z

              node_decl_sizing : Sizing s₃ d (c₁ + 2) c₁
              node_decl_sizing = decl_sizing s d w stack base m at free k (expr_at doc a) (drop 2 p) global Q s₁ w₁ number place cell c₁ top₁ at₁ A fine s₂ number₂ P yes s₃ Z₁

              node_decl_store : StoreAsk s₃ d w₁ (c₁ + 2) c₁ at at₁ free
              node_decl_store =
                  let R = decl_room s d w stack base m at free k (expr_at doc a) (drop 2 p) global Q s₁ w₁ number place cell c₁ top₁ at₁ A fine s₂ number₂ P yes s₃ Z₁ in
                  let x = R.2 in
                  record {
                    sizing = node_decl_sizing;
                    size = decl_size s d w stack base m at free k (expr_at doc a) (drop 2 p) global Q s₁ w₁ number place cell c₁ top₁ at₁ A fine s₂ number₂ P yes s₃ Z₁;
                    clean = decl_clean s d w stack base m at free k (expr_at doc a) (drop 2 p) global Q s₁ w₁ number place cell c₁ top₁ at₁ A fine s₂ number₂ P yes s₃ Z₁;
                    gap = decl_gap s d w stack base m at free k (expr_at doc a) (drop 2 p) global Q s₁ w₁ number place cell c₁ top₁ at₁ A fine s₂ number₂ P yes s₃ Z₁;
                    some = R.0;
                    before = R.1;
                    room = omega arith;
                    scratch = R.3;
                    near = R.4;
                  }

              module _ {v : ℕ} (M : SizeIs s₃ d (c₁ + 2) c₁ v) {s₄ w₂ : List ℕ} {e : ℕ} (T : TypeStored s₃ s₄ d w₁ w₂ (c₁ + 2) c₁ at free e) where
                long : (length w₂ ≡ length w) × (e ≤ at + type_words) × (at + node_type_words ≤ pool_end + node_type_words) × (base + table_words ≤ frames_end) × (check_work_words ≤ length w)
                long =
                    let x = T.scratch.size in
                    let y = A.spared.size in
                    let z = Q.walking.room.pool in
                    let f = Q.walking.room.frames in
                    let g = Q.beside in
                    (x ∙ y, T.short, omega arith, omega arith, Q.walking.room.wide)

                -- the table and the type can be read
                node_decl_declared : DeclaredAsk s₄ d w₂ base m at
                unfolding lines_numbers
                node_decl_declared =
                    let W = Q.walking in
                    let f = W.few in
                    let g = Q.few in
                    let u = Q.beside in
                    let y = Q.low in
                    let x = long in
                    let x₀ = x.0 in
                    let x₃ = x.3 in
                    let x₄ = x.4 in
                    let R = rows_ready s d w base m W.before W.known Q.signature Q.carried (omega arith) in
                    let l = expr_numbers (expr_at doc a) in
                    let S : Stored s s₄ at e =
                    record {
                      size = T.stored.size ∙ decl_size s d w stack base m at free k (expr_at doc a) (drop 2 p) global Q s₁ w₁ number place cell c₁ top₁ at₁ A fine s₂ number₂ P yes s₃ Z₁ ∙ sym W.size;
                      before = λ i h. T.stored.before i h ∙ lower_words s₁ s₃ (Z.low ∙ P.low) i (let z = x.2 in omega arith) ∙ (A.areas fine).stored.before i h;
                      after = T.stored.after;
                      more = T.stored.more;
                    } in
                    let o₁ = once_left (l ++ (k ∷ [])) [] W.once in
                    let f₁ = fresh_left (l ++ (k ∷ [])) [] W.known W.fresh in
                    let E = element_done s d w stack at free (expr_at doc a) k 0 W.size W.few (λ i. once_apart l (k ∷ []) o₁ k i (inl refl)) (omega arith) s₁ w₁ number place cell c₁ top₁ at₁ A
                    fine s₂ number₂ P yes s₃ Z₁ sized s₄ at (λ g₀. Unit {0}) (λ G₀ S₀. tt) T.stands W.scope W.dictionary W.before W.known W.steady W.scoped
                    (fresh_left l (k ∷ []) W.known f₁, unvisited (l ++ (k ∷ [])) W.known f₁ k (last_in l k) 0 (omega arith)) in
                    record {
                      areas = record { size = T.stored.size ∙ decl_size s d w stack base m at free k (expr_at doc a) (drop 2 p) global Q s₁ w₁ number place cell c₁ top₁ at₁ A fine s₂ number₂ P yes s₃ Z₁; few = omega arith };
                      table = record {
                        inside = omega arith;
                        readable = λ j h.
                            let r = R.readable j h in
                            record {
                              type = r.type;
                              reads =
                                  subst (λ z. Reads (heap s₄ d) z r.type) (sym (T.scratch.before (base + 2 * j + 1) (omega arith) ∙ A.spared.frames (base + 2 * j + 1) (omega arith) (omega arith)))
                                  (stored_reads s s₄ d at e W.size W.clean W.room.some (let z = x.2 in omega arith) S (get_or w (base + 2 * j + 1) 0) r.type r.reads);
                            };
                      };
                      type = record { type = E.shown; reads = E.reads };
                    }

                fit : base + 2 * (m + length (drop 2 p)) ≤ length w₂
                unfolding cell
                fit =
                    let x = long in
                    let x₀ = x.0 in
                    let x₃ = x.3 in
                    let x₄ = x.4 in
                    let y = length-drop 2 p in
                    let z = rw q at (at_most doc lines k N.at) in
                    let n = ap length N.words in
                    let g = Q.few in
                    omega arith

                node_decl_enter : EnterAsk w₂ base m p at e k
                node_decl_enter =
                    let x = fit in
                    let y = length-drop 2 p in
                    let z = long.2 in
                    let u = long.1 in
                    let h = N.at.small in
                    record { near = omega arith; room = omega arith; place = omega arith; last = omega arith }

                module _ {b₁ : Bool} (F : FitsTold s₄ d w₂ base m (drop 2 p) at v b₁) where
                  node_decl_clash : b₁ ≡ false → {r : Lined} → LinedAt r 36 k 0 0 → LinesDone s s₄ d w w₂ stack base m at free (line_at doc k end) global r.number r.place r.count r.at
                  node_decl_clash nay {r} L = lines_told L (back s₄ w₂ 36 k 0 0
                      (decl_clash s d w stack base m at free k (expr_at doc a) (drop 2 p) global Q s₁ w₁ number place cell c₁ top₁ at₁ A fine s₂ number₂ P yes s₃ Z₁ sized s₄ w₂ v e M T.stored T.scratch T.short T.stands (F.stops nay) 0 0))

                  module _ (agrees : b₁ ≡ true) {b₂ : Bool} (G : NewIfTold global d w₂ (drop 2 p) b₂) where
                    node_decl_global : b₂ ≡ false → {r : Lined} → LinedAt r 36 k 0 0 → LinesDone s s₄ d w w₂ stack base m at free (line_at doc k end) global r.number r.place r.count r.at
                    node_decl_global nay {r} L = lines_told L (back s₄ w₂ 36 k 0 0
                        (decl_global s d w stack base m at free k (expr_at doc a) (drop 2 p) global Q s₁ w₁ number place cell c₁ top₁ at₁ A fine s₂ number₂ P yes s₃ Z₁ sized s₄ w₂ v e M T.stored T.scratch T.short T.stands (F.goes agrees) (G.stops nay) 0 0))

                    module _ (new : b₂ ≡ true) where
                      node_decl_large : 32 < v → {r : Lined} → LinedAt r 38 k 0 0 → LinesDone s s₄ d w w₂ stack base m at free (line_at doc k end) global r.number r.place r.count r.at
                      node_decl_large o₂ {r} L = lines_told L (back s₄ w₂ 38 k 0 0
                          (decl_large s d w stack base m at free k (expr_at doc a) (drop 2 p) global Q s₁ w₁ number place cell c₁ top₁ at₁ A fine s₂ number₂ P yes s₃ Z₁ sized s₄ w₂ v e M T.stored T.scratch T.short T.stands (F.goes agrees) (G.goes new) o₂ 0 0))

                      module _ (light : v ≤ 32) {w₃ : List ℕ} {count : ℕ} (Tb : Table w₂ w₃ base (declare_rows (drop 2 p) at (rows w₂ base m)) count) where
                        node_decl_many : 16 < count → {r : Lined} → LinedAt r 38 k 0 0 → LinesDone s s₄ d w w₃ stack base m at free (line_at doc k end) global r.number r.place r.count r.at
                        node_decl_many o₂ {r} L = lines_told L (back s₄ w₃ 38 k 0 0
                            (decl_many s d w stack base m at free k (expr_at doc a) (drop 2 p) global Q s₁ w₁ number place cell c₁ top₁ at₁ A fine s₂ number₂ P yes s₃ Z₁ sized s₄ w₂ v e M T.stored T.scratch T.short T.stands (F.goes agrees) (G.goes new) light w₃ count Tb fit o₂ 0 0))

                        node_decl_done : count ≤ 16 → (count ≡ m → ⊥) → {r : Lined} → LinedAt r 0 k count e → LinesDone s s₄ d w w₃ stack base m at free (line_at doc k end) global r.number r.place r.count r.at
                        node_decl_done o₂ ne {r} L = lines_told L (back s₄ w₃ 0 k count e
                            (decl_done s d w stack base m at free k (expr_at doc a) (drop 2 p) global Q s₁ w₁ number place cell c₁ top₁ at₁ A fine s₂ number₂ P yes s₃ Z₁ sized s₄ w₂ v e M T.stored T.scratch T.short T.stands (F.goes agrees) (G.goes new) light w₃ count Tb fit k o₂ ne))

                        node_decl_kept : {s₅ : List ℕ} → count ≡ m → s₅ ≡ sets s₄ at (replicate (e - at) 0) → {r : Lined} → LinedAt r 0 k m at → LinesDone s s₅ d w w₃ stack base m at free (line_at doc k end) global r.number r.place r.count r.at
                        node_decl_kept {s₅} o₂ wiped {r} L = lines_told L (back s₅ w₃ 0 k m at
                            (decl_kept s d w stack base m at free k (expr_at doc a) (drop 2 p) global Q s₁ w₁ number place cell c₁ top₁ at₁ A fine s₂ number₂ P yes s₃ Z₁ sized s₄ w₂ v e M T.stored T.scratch T.short T.stands (F.goes agrees) (G.goes new) light w₃ count Tb fit k s₅ Q.few o₂ wiped))

    -- WHAT THE DECL ASKS AND TELLS AFTER THE VISIT.
    typing : number ≡ 0 → (s₄ w₂ : List ℕ) (v size e : ℕ) → ElementTold s₁ s₄ d w₁ w₂ c₁ top₁ cell at free v size e → TypedAsk s₄ d w₂ base m p at e k v
    typing fine s₄ w₂ v size e (no_power q same P) = record { near = small; readable = λ z. absurd (q z); entering = λ z. absurd (q z) }
    typing fine s₄ w₂ v size e (power s₂ P (several q same Z)) = record { near = small; readable = λ z. absurd (omega arith); entering = λ z. absurd (omega arith) }
    typing fine s₄ w₂ v size e (power s₂ P (one s₃ Z T)) = record {
      near = small;
      readable = λ z. node_decl_declared fine P refl Z refl T.measured T.stored;
      entering = λ z. node_decl_enter fine P refl Z refl T.measured T.stored;
    }

    pub node_decl_asked : DeclAsk s₁ d w₁ base m p at free k number cell c₁ top₁ at₁
    node_decl_asked = record {
      going = λ fine. record {
        element = record {
          working = node_decl_working fine;
          closing = λ s₂ P. record { closing = node_decl_closing fine P refl; storing = λ s₃ Z. node_decl_store fine P refl Z refl };
        };
        typing = typing fine;
      };
    }

    module _ (r : Lined) where
      -- the Decl's promise, with these areas at the end
      abbrev Promised : List ℕ → List ℕ → Type 0
      Promised s' w' = LinesDone s s' d w w' stack base m at free (line_at doc k end) global r.number r.place r.count r.at

      still : {s₂ s' w₂ w' : List ℕ} → s' ≡ s₂ → w' ≡ w₂ → Promised s₂ w₂ → Promised s' w'
      still {s₂} {s'} {w₂} {w'} e q D = subst (λ z. Promised z w') (sym e) (subst (Promised s₂) (sym q) D)

      numbered : {f g place' count' end' : ℕ} → f ≡ g → LinedAt r f place' count' end' → LinedAt r g place' count' end'
      numbered {f} {g} {place'} {count'} {end'} e L = subst (λ z. LinedAt r z place' count' end') e L

      module _ (fine : number ≡ 0) where
        told_unequal : {s₄ w₂ s' w' : List ℕ} {v size e : ℕ} → (v ≡ 0 → ⊥) → w₂ ≡ w₁ → Powered s₁ s₄ d c₁ top₁ cell v →
            TypedTold s₄ s' d w₂ w' base m (drop 2 p) at k global v size e r → Promised s' w'
        told_unequal q same P (untyped n es ew L) = still es (ew ∙ same) (node_decl_unequal fine P q L)
        told_unequal q same P (refused own z O n es ew L) = absurd (q z)
        told_unequal q same P (fits z O E) = absurd (q z)

        module _ {s₂ : List ℕ} (P : Powered s₁ s₂ d c₁ top₁ cell 0) where
          told_several : {s₄ w₂ s' w' : List ℕ} {v size e : ℕ} → v ≡ 34 → w₂ ≡ w₁ → Closed s₂ s₄ d (c₁ + 2) false →
              TypedTold s₄ s' d w₂ w' base m (drop 2 p) at k global v size e r → Promised s' w'
          told_several q same Z (untyped n es ew L) = still es (ew ∙ same) (node_decl_several fine P refl Z refl (numbered q L))
          told_several q same Z (refused own z O n es ew L) = absurd (omega arith)
          told_several q same Z (fits z O E) = absurd (omega arith)

          module _ {s₃ s₄ w₂ : List ℕ} {v size e : ℕ} (Z : Closed s₂ s₃ d (c₁ + 2) true) (T : TypeKept s₃ s₄ d w₁ w₂ (c₁ + 2) c₁ at free v size e) where
            told_refused : {own : ℕ} → OwnTold s₄ d w₂ base m (drop 2 p) at size global own → (own ≡ 0 → ⊥) → LinedAt r own k 0 0 → Promised s₄ w₂
            told_refused (clash q F) n L = node_decl_clash fine P refl Z refl T.measured T.stored F refl (numbered q L)
            told_refused (known q F G) n L = node_decl_global fine P refl Z refl T.measured T.stored F refl G refl (numbered q L)
            told_refused (large q F G l) n L = node_decl_large fine P refl Z refl T.measured T.stored F refl G refl l (numbered q L)
            told_refused (none q F G l) n L = absurd (n q)

            told_entered : {own : ℕ} → own ≡ 0 → OwnTold s₄ d w₂ base m (drop 2 p) at size global own → {s' w' : List ℕ} → EnterTold s₄ s' w₂ w' base m (drop 2 p) at e k r → Promised s' w'
            told_entered z (clash q F) E = absurd (omega arith)
            told_entered z (known q F G) E = absurd (omega arith)
            told_entered z (large q F G l) E = absurd (omega arith)
            told_entered z (none q F G l) (many count Tb o es L) = still es refl (node_decl_many fine P refl Z refl T.measured T.stored F refl G refl l Tb o L)
            told_entered z (none q F G l) (none_new count Tb o wiped L) = node_decl_kept fine P refl Z refl T.measured T.stored F refl G refl l Tb o wiped L
            told_entered z (none q F G l) (some_new count Tb o ne es L) = still es refl (node_decl_done fine P refl Z refl T.measured T.stored F refl G refl l Tb o ne L)

            told_typed : {s' w' : List ℕ} → TypedTold s₄ s' d w₂ w' base m (drop 2 p) at k global v size e r → Promised s' w'
            told_typed (untyped n es ew L) = absurd (n T.number_is)
            told_typed (refused own z O n es ew L) = still es ew (told_refused O n L)
            told_typed (fits z O E) = told_entered refl O E

        told_set : {s₄ w₂ s' w' : List ℕ} {v size e : ℕ} → ElementTold s₁ s₄ d w₁ w₂ c₁ top₁ cell at free v size e →
            TypedTold s₄ s' d w₂ w' base m (drop 2 p) at k global v size e r → Promised s' w'
        told_set (no_power q same P) T = told_unequal q same P T
        told_set (power s₂ P (several q same Z)) T = told_several P q same Z T
        told_set (power s₂ P (one s₃ Z K)) T = told_typed P Z K T

      pub node_decl_told : {s' w' : List ℕ} → DeclTold s₁ s' d w₁ w' base m (drop 2 p) at free k global number place cell c₁ top₁ r → Promised s' w'
      node_decl_told (stopped n es ew L) = still es ew (node_decl_stopped n L)
      node_decl_told (went fine T) = told_set fine T.element T.typed
