-- The rules keep the pieces apart (R15): in a readable document no piece shares an unknown of its own with a piece before or inside it, with merging or with
-- sizes. So 33, 34, 35 and 39 rest on their piece's own equations.
use mathlib.Core.Path.{◌≡◌, refl, ap}
use Rattle.types_rules.specs.Former.{power as powerFormer}
use Rattle.types_rules.specs.Equations.{end as pairsEnd}
use Rattle.types_rules.specs.Trees.{finite}
use Rattle.types_rules.specs.Types.{Ty, node, tnil, tcons, Term, under, Each}
use Rattle.reader_rules.specs.Tree.{expr_node, exprs_length, Expr, reference, number, integers, set, tuple, product, power, application, selection, theta, schema_set, arithmetic, comprehension, Exprs, none, more, Pred, truth, equal, member, at_most, not, connected, quantified, Text, text, Lines, end, declaration, inclusion, Include, include, Schema, plain, from, both, Paragraph, given, axiomatic, schema, abbreviation, constraint, include_node}
use Rattle.checker_rules.specs.Unknowns.{Valuation, slot, unknown_at, row, integer, power_of, product_of, pair_of}
use Rattle.checker_rules.specs.Items.{◌⨾◌, fresh, And, Items, skip, small, piece, Any, Typings}
use Rattle.checker_rules.specs.Signatures.{binding_of, Signature, no_names, names_of, merge, declare}
use Rattle.checker_rules.specs.Conditions.{type_of, types_of, equation, are_numbers, typed, is_power, are_powers, are_members, merge_declared, merge_names, new_names, small_types, few_names}
use Rattle.checker_rules.proofs.ItemLaws.{agreed}
use Rattle.checker_rules.proofs.ItemEquations.{standing_start}
use Rattle.checker_rules.proofs.OneType.{incl_same}
use Rattle.checker_rules.proofs.ScopeUnknowns.{name_over, binding_over, AllIn, all_left, all_right, FewRecorded, longer, Own, ScopeOver, SigOver, parameters_over, included_over, lines_inside, inside_over}
use Rattle.checker_rules.proofs.PieceOwners.{root_owned, roots_owned, inner_numbers, inners_numbers}
use Rattle.checker_rules.proofs.PieceEquations.{fixed_own, fixed_off, OwnNode, Off, Separate, Alone, by_own, bare_separate, node_separate}
use Rattle.checker_rules.proofs.PieceTerms.{ScopeSame, name_same, parameters_same, inside_same, inside_lines, binding_same, root_fixed, typed_own, power_own, powers_own, members_own, types_own, powers_row, reference_own, theta_own}
use mathlib.Core.Bool.{true}
use mathlib.Core.List.{List, [], ◌∷◌, ◌++◌}
use mathlib.Core.Logic.{inl, inr}
use Prim.Native.Nat.{ℕ, suc, ◌+◌, ◌≤◌}
use native.Mathlib.Omega.{arith}
use Rattle.words.specs.Loops.{has}
use Rattle.reader_rules.specs.Reading.{read_of}
use Rattle.reader_rules.specs.Decode.{tree_of}
use Rattle.reader_rules.specs.TreeNumbers.{expr_numbers, exprs_numbers, pred_numbers, text_numbers, lines_numbers, include_numbers, schema_numbers, paragraph_numbers, paragraphs_numbers}
use Rattle.checker_rules.specs.Dictionary.{Dictionary, blank}
use Rattle.checker_rules.specs.Scopes.{Scope, globals, name_at, schema_named, with_parameters, include_signature, inside, schema_signature}
use Rattle.checker_rules.specs.Rules.{reference_items, theta_items, expr_items, exprs_items, pred_items, text_items, lines_items, include_items, actual_items, schema_items, paragraph_items}
use Rattle.checker_rules.specs.Entries.{extend}
use Rattle.checker_rules.specs.Check.{paragraphs_of}
use Rattle.checker_rules.specs.Pieces.{Owns}
use Rattle.checker_rules.specs.PieceEquations.{PiecesAlone}
use Rattle.checker_rules.proofs.ItemUnknowns.{Over}
use Rattle.checker_rules.proofs.WrittenOnce.{paragraphs_once}
use Rattle.reader_rules.proofs.Sized.{SizedExpr, SizedExprs, SizedPred, SizedText, SizedLines, SizedInclude, SizedSchema, SizedParagraph, SizedParagraphs}
use Rattle.checker_rules.proofs.SizedTree.{tree_sized}
use Rattle.checker_rules.proofs.SignatureTerms.{none_having, merge_having, declare_having}
use Rattle.checker_rules.proofs.RuleUnknowns.{smalls_over, new_names_over, expr_over, pred_over, text_over, lines_over, schema_over}
use Rattle.checker_rules.proofs.NewUnknowns.{EachOnce, once_left, once_right, has_left, has_right, apart, turned, declaration_over, inclusion_over}
use Rattle.checker_rules.proofs.SelectFindings.{extend_few}
use Rattle.checker_rules.proofs.TypingLaws.{first_has}
use Rattle.reader_rules.specs.Refusals.{Readable}
use Rattle.checker_rules.proofs.ItemForms.{declared_new, names_new, small_few, smalls_few, names_few, new_names_bare, smalls_bare}
use Rattle.checker_rules.proofs.PieceContexts.{ReadyContext, With, own_all, sig_map, ready_left, ready_right, ready_and, ready_with, ready_after, ready_inside, pair_separate, power_piece, expr_piece, relation_piece, NewRow, WithOne, mentions, ready_one, row_after, all_map, rule_separate}

power_same : (σ τ : Valuation) (t : Term) → under σ t ≡ under τ t → under σ (power_of t) ≡ under τ (power_of t)
unfolding under
power_same σ τ t e = ap (λ (g : Ty). node powerFormer (tcons g tnil)) e

-- ---- the rules
mutual
  unfolding expr_items expr_numbers inner_numbers SizedExpr Separate Over Owns Each OwnNode

  expr_separate : (a : Expr) (Γ : Scope) (w : Items) (P : Typings) (C : ℕ → Type 0) → ReadyContext (expr_numbers a) w P C Γ → ((x : ℕ) → Owns (expr_items a Γ) x → Owns w x) → AllIn (Own (Off w)) (inner_numbers a) → EachOnce (expr_numbers a) → SizedExpr a
      → Separate (expr_items a Γ) w P
  expr_separate (reference n i xs) Γ w P C r own h o f = (
    exprs_separate xs Γ w P C (ready_left w P C Γ (exprs_numbers xs) (n ∷ []) r) (λ x q. own x (inl q)) h (once_left (exprs_numbers xs) (n ∷ []) o) f,
    λ p. node_separate (reference_items n xs (name_at i Γ)) w (And P (exprs_items xs Γ))
        (reference_own w (And P (exprs_items xs Γ)) n xs (name_at i Γ) (roots_owned xs Γ P w p (λ x q. own x (inl q))) (λ x q. own x (inr q)) (name_over (Off w) i Γ r.off) (λ σ τ g k. name_same σ τ i Γ (r.settled σ τ g.0 k.0))),
  )
  expr_separate (number n v) Γ w P C r own h o f = node_separate (typed n integer) w P (typed_own w P n integer (own (slot n 0) (inl refl)) (fixed_own w P integer tt))
  expr_separate (integers n) Γ w P C r own h o f = node_separate (typed n (power_of integer)) w P (typed_own w P n (power_of integer) (own (slot n 0) (inl refl)) (fixed_own w P (power_of integer) (tt, tt)))
  expr_separate (set n xs) Γ w P C r own h o f =
      let Q : Typings = And P (exprs_items xs Γ) in
      let e = own (slot n 1) (inr (inl refl)) in (
        exprs_separate xs Γ w P C (ready_left w P C Γ (exprs_numbers xs) (n ∷ []) r) (λ x q. own x (inl q)) h (once_left (exprs_numbers xs) (n ∷ []) o) f,
        λ p. node_separate (fresh (slot n 1) ⨾ are_members n xs ⨾ typed n (power_of (unknown_at n 1))) w Q
            (tt, (members_own w Q n xs (roots_owned xs Γ P w p (λ x q. own x (inl q))) e, typed_own w Q n (power_of (unknown_at n 1)) (own (slot n 0) (inr (inr (inr (inl refl))))) (fixed_own w Q (power_of (unknown_at n 1)) (e, tt)))),
      )
  expr_separate (tuple n xs) Γ w P C r own h o f =
      let Q : Typings = And P (exprs_items xs Γ) in (
        exprs_separate xs Γ w P C (ready_left w P C Γ (exprs_numbers xs) (n ∷ []) r) (λ x q. own x (inl q)) h (once_left (exprs_numbers xs) (n ∷ []) o) f.1,
        λ p. node_separate (typed n (product_of (types_of xs))) w Q
            (typed_own w Q n (product_of (types_of xs)) (own (slot n 0) (inr (inl refl))) (fixed_own w Q (product_of (types_of xs)) (types_own w Q xs (roots_owned xs Γ P w p (λ x q. own x (inl q)))))),
      )
  expr_separate (product n xs) Γ w P C r own h o f =
      let Q : Typings = And P (exprs_items xs Γ) in
      let e : (x : ℕ) → Owns (are_powers n xs 1) x → Owns w x = λ x q. own x (inr (inl q)) in
      let t = power_of (product_of (row n 1 (exprs_length xs))) in (
        exprs_separate xs Γ w P C (ready_left w P C Γ (exprs_numbers xs) (n ∷ []) r) (λ x q. own x (inl q)) h (once_left (exprs_numbers xs) (n ∷ []) o) f.1,
        λ p. node_separate (are_powers n xs 1 ⨾ typed n t) w Q
            (powers_own w Q n xs 1 (roots_owned xs Γ P w p (λ x q. own x (inl q))) e, typed_own w Q n t (own (slot n 0) (inr (inr (inl refl)))) (fixed_own w Q t (powers_row w Q n xs 1 e, tt))),
      )
  expr_separate (power n a) Γ w P C r own h o f =
      let Q : Typings = And P (expr_items a Γ) in
      let e = own (slot n 1) (inr (inl (inl refl))) in
      let t = power_of (power_of (unknown_at n 1)) in (
        expr_separate a Γ w P C (ready_left w P C Γ (expr_numbers a) (n ∷ []) r) (λ x q. own x (inl q)) h (once_left (expr_numbers a) (n ∷ []) o) f,
        λ p. node_separate (is_power n 1 a ⨾ typed n t) w Q (power_own w Q n 1 a e (own (slot (expr_node a) 0) (inl (root_owned a Γ P p))), typed_own w Q n t (own (slot n 0) (inr (inr (inl refl)))) (fixed_own w Q t ((e, tt), tt))),
      )
  expr_separate (application n a b) Γ w P C r own h o f =
      let Q : Typings = And (And P (expr_items a Γ)) (expr_items b Γ) in
      let t = power_of (pair_of (type_of b) (unknown_at n 0)) in
      let s = pair_separate a b Γ (λ w P C r u h o f. expr_separate a Γ w P C r u h o f) (λ w P C r u h o f. expr_separate b Γ w P C r u h o f) w P C (ready_left w P C Γ (expr_numbers a ++ expr_numbers b) (n ∷ []) r) (λ x q. own x (inl q)) (λ x q. own x (inr (inl q))) h (once_left (expr_numbers a ++ expr_numbers b) (n ∷ []) o) f.0 f.1 in (
        s.0,
        λ p. (
          s.1 p,
          λ q. node_separate (fresh (slot n 0) ⨾ equation n (type_of a) t) w Q
              (tt, ((root_fixed w Q a (own (slot (expr_node a) 0) (inl (root_owned a Γ P p))), fixed_own w Q t ((own (slot (expr_node b) 0) (inr (inl (root_owned b Γ (And P (expr_items a Γ)) q))), (own (slot n 0) (inr (inr (inl refl))), tt)), tt)), tt)),
        ),
      )
  expr_separate (selection n a i) Γ w P C r own h o f =
      let Q : Typings = And (And P (expr_items a Γ)) (fresh (slot n 0)) in (
        expr_separate a Γ w P C (ready_left w P C Γ (expr_numbers a) (n ∷ []) r) (λ x q. own x (inl q)) h (once_left (expr_numbers a) (n ∷ []) o) f,
        λ p. (tt, λ q. (root_fixed w Q a (own (slot (expr_node a) 0) (inl (root_owned a Γ P p))), fixed_own w Q (unknown_at n 0) (own (slot n 0) (inr (inl refl))))),
      )
  expr_separate (theta n c k) Γ w P C r own h o f = node_separate (theta_items n k (schema_named c Γ) Γ) w P (theta_own w P n k (schema_named c Γ) Γ own r.off r.settled)
  expr_separate (schema_set n i) Γ w P C r own h o f =
      let s = include_signature i Γ in
      let Q : Typings = And (And P (include_items i Γ)) (small_types (include_node i) s) in
      let over = included_over (Off w) i Γ h f in (
        include_separate i Γ w P C (ready_left w P C Γ (include_numbers i) (n ∷ []) r) h (once_left (include_numbers i) (n ∷ []) o) f,
        λ p. (
          bare_separate (small_types (include_node i) s) w _ (smalls_bare (include_node i) s) (smalls_over (Off w) (include_node i) s over),
          λ q. node_separate (typed n (power_of (binding_of s))) w Q
              (typed_own w Q n (power_of (binding_of s)) (own (slot n 0) (inr (inr (inl refl))))
              (fixed_off w Q (power_of (binding_of s)) (binding_over (Off w) s over, tt) (λ σ τ g k. power_same σ τ (binding_of s) (binding_same σ τ s (incl_same σ τ i Γ (agreed (include_items i Γ) P σ τ p g.0 k.0)))))),
        ),
      )
  expr_separate (arithmetic n c a b) Γ w P C r own h o f =
      let Q : Typings = And (And P (expr_items a Γ)) (expr_items b Γ) in
      let s = pair_separate a b Γ (λ w P C r u h o f. expr_separate a Γ w P C r u h o f) (λ w P C r u h o f. expr_separate b Γ w P C r u h o f) w P C (ready_left w P C Γ (expr_numbers a ++ expr_numbers b) (n ∷ []) r) (λ x q. own x (inl q)) (λ x q. own x (inr (inl q))) h (once_left (expr_numbers a ++ expr_numbers b) (n ∷ []) o) f.0 f.1 in
      let z = fixed_own w Q integer tt in (
        s.0,
        λ p. (
          s.1 p,
          λ q. node_separate (are_numbers n (type_of a) (type_of b) ⨾ typed n integer) w Q (
            ((root_fixed w Q a (own (slot (expr_node a) 0) (inl (root_owned a Γ P p))), z), ((root_fixed w Q b (own (slot (expr_node b) 0) (inr (inl (root_owned b Γ (And P (expr_items a Γ)) q)))), z), tt)),
            typed_own w Q n integer (own (slot n 0) (inr (inr (inr (inl refl))))) z,
          ),
        ),
      )
  expr_separate (comprehension n t a) Γ w P C r own h o f =
      let T = text_numbers t in
      let A = expr_numbers a in
      let z = ready_left w P C Γ (T ++ A) (n ∷ []) r in
      let u = once_left (T ++ A) (n ∷ []) o in
      let d = apart T A u in
      let q = all_left (Own (Off w)) T (inner_numbers a) h in
      let Q : Typings = And P (text_items t Γ blank) in
      let R : Typings = And Q (expr_items a (inside t Γ)) in (
        text_separate t Γ blank w P C (ready_left w P C Γ T A z) q (once_left T A u) f.0,
        λ p. (
          expr_separate a (inside t Γ) w Q (With T C)
              (ready_inside w Q C Γ (inside t Γ) T A (λ N h k. inside_over N t Γ h f.0 k) q (λ σ τ g k s. inside_same σ τ t Γ blank (agreed (text_items t Γ blank) P σ τ p g k) s)
              (ready_after w P C Γ T A (text_items t Γ blank) d (λ N h k. text_over N t Γ blank h f.0 k) (ready_right w P C Γ T A z)))
              (λ x y. own x (inr (inl y))) (all_right (Own (Off w)) T (inner_numbers a) h) (once_right T A u) f.1,
          λ y. let e = own (slot (expr_node a) 0) (inr (inl (root_owned a (inside t Γ) Q y))) in
              node_separate (typed n (power_of (type_of a))) w R (typed_own w R n (power_of (type_of a)) (own (slot n 0) (inr (inr (inl refl)))) (fixed_own w R (power_of (type_of a)) (e, tt))),
        ),
      )

  exprs_separate : (xs : Exprs) (Γ : Scope) (w : Items) (P : Typings) (C : ℕ → Type 0) → ReadyContext (exprs_numbers xs) w P C Γ → ((x : ℕ) → Owns (exprs_items xs Γ) x → Owns w x) → AllIn (Own (Off w)) (inners_numbers xs) → EachOnce (exprs_numbers xs)
      → SizedExprs xs → Separate (exprs_items xs Γ) w P
  exprs_separate none Γ w P C r own h o f = tt
  exprs_separate (more a xs) Γ w P C r own h o f =
      let A = expr_numbers a in
      let B = exprs_numbers xs in (
        expr_separate a Γ w P C (ready_left w P C Γ A B r) (λ x q. own x (inl q)) (all_left (Own (Off w)) (inner_numbers a) (inners_numbers xs) h) (once_left A B o) f.0,
        λ p. exprs_separate xs Γ w (And P (expr_items a Γ)) (With A C) (ready_after w P C Γ A B (expr_items a Γ) (apart A B o) (λ N h k. expr_over N a Γ h f.0 k) (ready_right w P C Γ A B r)) (λ x q. own x (inr q))
            (all_right (Own (Off w)) (inner_numbers a) (inners_numbers xs) h) (once_right A B o) f.1,
      )

  pred_separate : (p : Pred) (Γ : Scope) (w : Items) (P : Typings) (C : ℕ → Type 0) → ReadyContext (pred_numbers p) w P C Γ → AllIn (Own (Off w)) (pred_numbers p) → EachOnce (pred_numbers p) → SizedPred p
      → Separate (pred_items p Γ) w P
  pred_separate (truth n) Γ w P C r h o f = tt
  pred_separate (equal n a b) Γ w P C r h o f =
      relation_piece n a b (equation n (type_of a) (type_of b)) w P C Γ (λ x q. q) (λ y z. let t = expr_items a Γ ⨾ expr_items b Γ ⨾ equation n (type_of a) (type_of b) in let Q : Typings = And (And P (expr_items a Γ)) (expr_items b Γ) in ((root_fixed t Q a y, root_fixed t Q b z), tt)) (pred_over (Off w) (equal n a b) Γ h f r.off) (ready_left w P C Γ (expr_numbers a ++ expr_numbers b) (n ∷ []) r)
      (once_left (expr_numbers a ++ expr_numbers b) (n ∷ []) o) f.0 f.1 (λ w P C r u h o f. expr_separate a Γ w P C r u h o f) (λ w P C r u h o f. expr_separate b Γ w P C r u h o f)
  pred_separate (member n a b) Γ w P C r h o f =
      relation_piece n a b (equation n (power_of (type_of a)) (type_of b)) w P C Γ (λ x q. q) (λ y z. let t = expr_items a Γ ⨾ expr_items b Γ ⨾ equation n (power_of (type_of a)) (type_of b) in let Q : Typings = And (And P (expr_items a Γ)) (expr_items b Γ) in ((fixed_own t Q (power_of (type_of a)) (y, tt), root_fixed t Q b z), tt)) (pred_over (Off w) (member n a b) Γ h f r.off) (ready_left w P C Γ (expr_numbers a ++ expr_numbers b) (n ∷ []) r)
      (once_left (expr_numbers a ++ expr_numbers b) (n ∷ []) o) f.0 f.1 (λ w P C r u h o f. expr_separate a Γ w P C r u h o f) (λ w P C r u h o f. expr_separate b Γ w P C r u h o f)
  pred_separate (at_most n a b) Γ w P C r h o f =
      relation_piece n a b (are_numbers n (type_of a) (type_of b)) w P C Γ (λ x q. q) (λ y z. let t = expr_items a Γ ⨾ expr_items b Γ ⨾ are_numbers n (type_of a) (type_of b) in let Q : Typings = And (And P (expr_items a Γ)) (expr_items b Γ) in ((root_fixed t Q a y, fixed_own t Q integer tt), ((root_fixed t Q b z, fixed_own t Q integer tt), tt))) (pred_over (Off w) (at_most n a b) Γ h f r.off) (ready_left w P C Γ (expr_numbers a ++ expr_numbers b) (n ∷ []) r)
      (once_left (expr_numbers a ++ expr_numbers b) (n ∷ []) o) f.0 f.1 (λ w P C r u h o f. expr_separate a Γ w P C r u h o f) (λ w P C r u h o f. expr_separate b Γ w P C r u h o f)
  pred_separate (not n p) Γ w P C r h o f =
      pred_separate p Γ w P C (ready_left w P C Γ (pred_numbers p) (n ∷ []) r) (all_left (Own (Off w)) (pred_numbers p) (n ∷ []) h) (once_left (pred_numbers p) (n ∷ []) o) f
  pred_separate (connected n c p q) Γ w P C r h o f =
      let A = pred_numbers p in
      let B = pred_numbers q in
      let z = ready_left w P C Γ (A ++ B) (n ∷ []) r in
      let u = once_left (A ++ B) (n ∷ []) o in
      let l = all_left (Own (Off w)) (A ++ B) (n ∷ []) h in (
        pred_separate p Γ w P C (ready_left w P C Γ A B z) (all_left (Own (Off w)) A B l) (once_left A B u) f.0,
        λ y. pred_separate q Γ w (And P (pred_items p Γ)) (With A C) (ready_after w P C Γ A B (pred_items p Γ) (apart A B u) (λ N h k. pred_over N p Γ h f.0 k) (ready_right w P C Γ A B z)) (all_right (Own (Off w)) A B l) (once_right A B u) f.1,
      )
  pred_separate (quantified n c t p) Γ w P C r h o f =
      let T = text_numbers t in
      let A = pred_numbers p in
      let z = ready_left w P C Γ (T ++ A) (n ∷ []) r in
      let u = once_left (T ++ A) (n ∷ []) o in
      let d = apart T A u in
      let l = all_left (Own (Off w)) (T ++ A) (n ∷ []) h in
      let q = all_left (Own (Off w)) T A l in (
        text_separate t Γ blank w P C (ready_left w P C Γ T A z) q (once_left T A u) f.0,
        λ y. pred_separate p (inside t Γ) w (And P (text_items t Γ blank)) (With T C)
            (ready_inside w (And P (text_items t Γ blank)) C Γ (inside t Γ) T A (λ N h k. inside_over N t Γ h f.0 k) q (λ σ τ g k s. inside_same σ τ t Γ blank (agreed (text_items t Γ blank) P σ τ y g k) s)
            (ready_after w P C Γ T A (text_items t Γ blank) d (λ N h k. text_over N t Γ blank h f.0 k) (ready_right w P C Γ T A z)))
            (all_right (Own (Off w)) T A l) (once_right T A u) f.1,
      )

  text_separate : (t : Text) (Γ : Scope) (G : Dictionary) (w : Items) (P : Typings) (C : ℕ → Type 0) → ReadyContext (text_numbers t) w P C Γ → AllIn (Own (Off w)) (text_numbers t) → EachOnce (text_numbers t) → SizedText t
      → Separate (text_items t Γ G) w P
  text_separate (text n p ls) Γ G w P C r h o f =
      let A = pred_numbers p in
      let L = lines_numbers ls in
      let t = lines_items ls Γ G no_names in
      let z = ready_left w P C Γ (A ++ L) (n ∷ []) r in
      let u = once_left (A ++ L) (n ∷ []) o in
      let d = turned A L (apart A L u) in
      let l = all_left (Own (Off w)) (A ++ L) (n ∷ []) h in
      let q = all_right (Own (Off w)) A L l in (
        lines_separate ls Γ G no_names w P C (ready_right w P C Γ A L z) q (none_having (Each C)) (none_having (Each (Off w))) (once_right A L u) f.1,
        λ y. pred_separate p (inside (text n p ls) Γ) w (And P t) (With L C)
            (ready_inside w (And P t) C Γ (inside (text n p ls) Γ) L A (λ N h k. lines_inside N n p ls Γ h f.1 k) q (λ σ τ g k s. inside_lines σ τ n p ls Γ G (agreed t P σ τ y g k) s)
            (ready_after w P C Γ L A t d (λ N h k. lines_over N ls Γ G no_names h f.1 k (none_having (Each N))) (ready_left w P C Γ A L z)))
            (all_left (Own (Off w)) A L l) (once_left A L u) f.0,
      )

  lines_separate : (ls : Lines) (Γ : Scope) (G : Dictionary) (s : Signature) (w : Items) (P : Typings) (C : ℕ → Type 0) → ReadyContext (lines_numbers ls) w P C Γ → AllIn (Own (Off w)) (lines_numbers ls) → SigOver C s → SigOver (Off w) s
      → EachOnce (lines_numbers ls) → SizedLines ls → Separate (lines_items ls Γ G s) w P
  lines_separate end Γ G s w P C r h k j o f = tt
  lines_separate (declaration n a is ls) Γ G s w P C r h k j o f =
      let A = expr_numbers a in
      let B = A ++ (n ∷ []) in
      let L = lines_numbers ls in
      let N : ℕ → Type 0 = With B C in
      let s' = declare is (unknown_at n 0) s in
      let x = piece n (expr_items a Γ ⨾ is_power n 0 a) in
      let m = merge_declared n is (unknown_at n 0) s ⨾ new_names n is G in
      let c = small n (unknown_at n 0) ⨾ few_names n s' in
      let l = all_left (Own (Off w)) B L h in
      let own = (all_right (Own (Off w)) A (n ∷ []) l).0 0 (omega arith) in
      let q = ready_with w P C Γ B L (apart B L o) (ready_right w P C Γ B L r) in
      let k' = sig_map C N (λ y c. inr c) s k in
      let v = declaration_over N n a is Γ G s (own_all B C) f.0 q.scope k' in
      let g = declaration_over (Off w) n a is Γ G s l f.0 r.off j in
      let b = once_left B L o in
      let y = ready_left w P C Γ B L r in (
        power_piece n 0 a w P C Γ (omega arith) (λ e. apart A (n ∷ []) b n e (first_has n [])) (y.new n 0 (has_right n A (n ∷ []) (first_has n [])) (omega arith)) g.0 (ready_left w P C Γ A (n ∷ []) y) (once_left A (n ∷ []) b) f.0
            (λ w P C r u h o f. expr_separate a Γ w P C r u h o f),
        λ p1. (
          bare_separate m w (And P x) (declared_new n is (unknown_at n 0) s G) g.1.0,
          λ p2. (
            bare_separate c w (And (And P x) m) (small_few n (unknown_at n 0) s') g.1.1.0,
            λ p3. lines_separate ls Γ G s' w (And (And (And P x) m) c) N (ready_and w (And (And P x) m) N Γ L c v.1.1.0 (ready_and w (And P x) N Γ L m v.1.0 (ready_and w P N Γ L x v.0 q)))
                (all_right (Own (Off w)) B L h) (declare_having (Each N) is (unknown_at n 0) s ((all_right (Own N) A (n ∷ []) (own_all B C)).0 0 (omega arith)) k') (declare_having (Each (Off w)) is (unknown_at n 0) s own j) (once_right B L o) f.1,
          ),
        ),
      )
  lines_separate (inclusion i ls) Γ G s w P C r h k j o f =
      let B = include_numbers i in
      let L = lines_numbers ls in
      let N : ℕ → Type 0 = With B C in
      let b = include_signature i Γ in
      let s' = merge b s in
      let x = include_items i Γ in
      let m = merge_names (include_node i) b s ⨾ new_names (include_node i) (names_of b) G in
      let c = small_types (include_node i) b ⨾ few_names (include_node i) s' in
      let l = all_left (Own (Off w)) B L h in
      let q = ready_with w P C Γ B L (apart B L o) (ready_right w P C Γ B L r) in
      let k' = sig_map C N (λ y c. inr c) s k in
      let v = inclusion_over N i Γ G s (own_all B C) f.0 q.scope k' in
      let g = inclusion_over (Off w) i Γ G s l f.0 r.off j in (
        include_separate i Γ w P C (ready_left w P C Γ B L r) l (once_left B L o) f.0,
        λ p1. (
          bare_separate m w (And P x) (names_new (include_node i) b s (names_of b) G) g.1.0,
          λ p2. (
            bare_separate c w (And (And P x) m) (smalls_few (include_node i) b s') g.1.1.0,
            λ p3. lines_separate ls Γ G s' w (And (And (And P x) m) c) N (ready_and w (And (And P x) m) N Γ L c v.1.1.0 (ready_and w (And P x) N Γ L m v.1.0 (ready_and w P N Γ L x v.0 q)))
                (all_right (Own (Off w)) B L h) (merge_having (Each N) b s (included_over N i Γ (own_all B C) f.0) k') (merge_having (Each (Off w)) b s (included_over (Off w) i Γ l f.0) j) (once_right B L o) f.1,
          ),
        ),
      )

  include_separate : (i : Include) (Γ : Scope) (w : Items) (P : Typings) (C : ℕ → Type 0) → ReadyContext (include_numbers i) w P C Γ → AllIn (Own (Off w)) (include_numbers i) → EachOnce (include_numbers i) → SizedInclude i
      → Separate (include_items i Γ) w P
  include_separate (include n c k xs rs) Γ w P C r h o f =
      let X = exprs_numbers xs in
      rule_separate (schema_named c Γ) (include n c k xs rs) (actual_items xs n 1 Γ) w P
      (actuals_separate xs n 1 Γ w P C (λ q. apart X (n ∷ []) o n q (first_has n [])) (omega (arith, f.0)) (λ j p q c. r.new n j (has_right n X (n ∷ []) (first_has n [])) q c) (all_right (Own (Off w)) X (n ∷ []) h).0
      (ready_left w P C Γ X (n ∷ []) r) (all_left (Own (Off w)) X (n ∷ []) h) (once_left X (n ∷ []) o) f.1)

  actuals_separate : (xs : Exprs) (n k : ℕ) (Γ : Scope) (w : Items) (P : Typings) (C : ℕ → Type 0) → (has n (exprs_numbers xs) ≡ true → ⊥) → k + exprs_length xs ≤ 7 → NewRow n k C → Own (Off w) n
      → ReadyContext (exprs_numbers xs) w P C Γ → AllIn (Own (Off w)) (exprs_numbers xs) → EachOnce (exprs_numbers xs) → SizedExprs xs → Separate (actual_items xs n k Γ) w P
  actuals_separate none n k Γ w P C z l q own r h o f = tt
  actuals_separate (more a xs) n k Γ w P C z l q own r h o f =
      let A = expr_numbers a in
      let B = exprs_numbers xs in
      let x = piece n (expr_items a Γ ⨾ is_power n k a) in
      let u = longer k a xs l in
      let N : ℕ → Type 0 = WithOne (slot n k) (With A C) in
      let za : has n A ≡ true → ⊥ = λ e. z (has_left n A B e) in
      let zb : has n B ≡ true → ⊥ = λ e. z (has_right n A B e) in
      let v = ready_one n k w P (With A C) Γ B u.0 zb (ready_with w P C Γ A B (apart A B o) (ready_right w P C Γ A B r)) in (
        power_piece n k a w P C Γ u.0 za (q k (omega arith) u.0) (mentions (Off w) a n k Γ (own k u.0) (all_left (Own (Off w)) A B h) f.0 r.off) (ready_left w P C Γ A B r) (once_left A B o) f.0
            (λ w P C r u h o f. expr_separate a Γ w P C r u h o f),
        λ p. actuals_separate xs n (suc k) Γ w (And P x) N zb u.1 (row_after n k A C u.0 za q) own
            (ready_and w P N Γ B x (mentions N a n k Γ (inl refl) (all_map (With A C) N (λ y c. inr c) A (own_all A C)) f.0 v.scope) v) (all_right (Own (Off w)) A B h) (once_right A B o) f.1,
      )

schema_separate : (x : Schema) (Γ : Scope) (w : Items) (P : Typings) (C : ℕ → Type 0) → ReadyContext (schema_numbers x) w P C Γ → AllIn (Own (Off w)) (schema_numbers x) → EachOnce (schema_numbers x) → SizedSchema x
    → Separate (schema_items x Γ) w P
unfolding schema_items schema_numbers SizedSchema Separate Over
schema_separate (plain t) Γ w P C r h o f = text_separate t Γ blank w P C r h o f
schema_separate (from i) Γ w P C r h o f = (
  include_separate i Γ w P C r h o f,
  λ p. bare_separate (small_types (include_node i) (include_signature i Γ)) w _ (smalls_bare (include_node i) (include_signature i Γ)) (smalls_over (Off w) (include_node i) (include_signature i Γ) (included_over (Off w) i Γ h f)),
)
schema_separate (both n a b) Γ w P C r h o f =
    let A = schema_numbers a in
    let B = schema_numbers b in
    let z = ready_left w P C Γ (A ++ B) (n ∷ []) r in
    let u = once_left (A ++ B) (n ∷ []) o in
    let l = all_left (Own (Off w)) (A ++ B) (n ∷ []) h in
    let g = schema_over (Off w) (both n a b) Γ h f r.off in (
      schema_separate a Γ w P C (ready_left w P C Γ A B z) (all_left (Own (Off w)) A B l) (once_left A B u) f.0,
      λ p. (
        schema_separate b Γ w (And P (schema_items a Γ)) (With A C) (ready_after w P C Γ A B (schema_items a Γ) (apart A B u) (λ N h k. schema_over N a Γ h f.0 k) (ready_right w P C Γ A B z)) (all_right (Own (Off w)) A B l)
            (once_right A B u) f.1,
        λ q. bare_separate (merge_names n (schema_signature b Γ) (schema_signature a Γ) ⨾ few_names n (merge (schema_signature b Γ) (schema_signature a Γ))) w (And (And P (schema_items a Γ)) (schema_items b Γ))
            (names_few n (schema_signature b Γ) (schema_signature a Γ) (merge (schema_signature b Γ) (schema_signature a Γ))) g.1.1,
      ),
    )

-- ---- a paragraph, from the start: nothing has come before, and no piece is around it
abbrev Nothing : ℕ → Type 0
Nothing x = ⊥

off_skip : (l : List ℕ) → AllIn (Own (Off skip)) l
unfolding Owns
off_skip [] = tt
off_skip (m ∷ l) = (λ k u q. q, off_skip l)

module _ (D : Dictionary) (d : FewRecorded D) where
  start : (l ps : List ℕ) → ReadyContext l skip Any Nothing (with_parameters ps 1 (globals D))
  unfolding ScopeOver
  start l ps = record {
    rests = λ σ τ e h. tt;
    new = λ m k h u c. c;
    scope = parameters_over Nothing ps 1 (globals D) d;
    off = parameters_over (Off skip) ps 1 (globals D) d;
    settled = λ σ τ g h. parameters_same σ τ ps 1 (globals D) (unfold ScopeSame in tt);
  }

  names_separate : (n : ℕ) (is : List ℕ) (P : Typings) → Separate (new_names n is D) skip P
  names_separate n is P = bare_separate (new_names n is D) skip P (new_names_bare n is D) (new_names_over (Off skip) n is D)

  paragraph_separate : (p : Paragraph) → EachOnce (paragraph_numbers p) → SizedParagraph p → Separate (paragraph_items p D) skip Any
  unfolding paragraph_items paragraph_numbers SizedParagraph Separate with_parameters Owns Each
  paragraph_separate (given n is) o f = names_separate n is Any
  paragraph_separate (axiomatic n t) o f = text_separate t (globals D) D skip Any Nothing (start (text_numbers t) []) (off_skip (text_numbers t)) (once_left (text_numbers t) (n ∷ []) o) f
  paragraph_separate (schema n c ps x) o f =
      schema_separate x (with_parameters ps 1 (globals D)) skip Any Nothing (start (schema_numbers x) ps) (off_skip (schema_numbers x)) (once_left (schema_numbers x) (n ∷ []) o) f
  paragraph_separate (abbreviation n i ps a) o f =
      let Γ = with_parameters ps 1 (globals D) in
      let r = start (expr_numbers a) ps in (
        expr_piece n a skip Any Nothing Γ (expr_over (Off skip) a Γ (off_skip (expr_numbers a)) f r.off) r (once_left (expr_numbers a) (n ∷ []) o) f (λ w P C r u h o f. expr_separate a Γ w P C r u h o f),
        λ p. (names_separate n (i ∷ []) _, λ p1 q. q),
      )
  paragraph_separate (constraint n p) o f = pred_separate p (globals D) skip Any Nothing (start (pred_numbers p) []) (off_skip (pred_numbers p)) (once_left (pred_numbers p) (n ∷ []) o) f

alone_any : Alone skip Any (Any finite)
alone_any = record { own = λ σ h. tt; all = λ σ τ h o. tt; any = λ σ σ' τ g h j. tt }

paragraphs_alone : (ps : List Paragraph) (D : Dictionary) → EachOnce (paragraphs_numbers ps) → SizedParagraphs ps → FewRecorded D → PiecesAlone ps D
unfolding PiecesAlone paragraphs_numbers SizedParagraphs
paragraphs_alone [] D o f d = tt
paragraphs_alone (p ∷ ps) D o f d = (
  by_own (paragraph_items p D) skip Any (Any finite) pairsEnd standing_start (paragraph_separate D d p (once_left (paragraph_numbers p) (paragraphs_numbers ps) o) f.0) alone_any,
  λ τ h. paragraphs_alone ps (extend p D τ) (once_right (paragraph_numbers p) (paragraphs_numbers ps) o) f.1 (extend_few p D τ f.2 d),
)

-- 33, 34, 35 AND 39 REST ON THEIR PIECE'S OWN EQUATIONS, in every readable document.
pub pieces_alone : (doc : List ℕ) → read_of doc ≡ Readable → PiecesAlone (paragraphs_of (tree_of doc)) blank
pieces_alone doc r = paragraphs_alone (paragraphs_of (tree_of doc)) blank (paragraphs_once doc r) (tree_sized doc r) (unfold FewRecorded in tt)
