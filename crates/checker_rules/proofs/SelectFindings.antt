-- 33 NEVER COMES AT A SELECT OF A READABLE DOCUMENT: its unknown is new there, so that it can take the component's type.
use mathlib.Core.Bool.{Bool, true, false, cond}
use lib.Dec.{eqb}
use Rattle.types_rules.specs.Types.{nil, under, Each, integer_type}
use Rattle.types_rules.specs.Instance.{instance}
use Rattle.checker_rules.specs.Items.{Items, refusal, ◌⨾◌, fresh, small, piece, Any, And, Passes, Typings}
use Rattle.checker_rules.specs.Dictionary.{NamedSchema, no_schema, a_schema, name_entry, Dictionary, blank, ◌▸◌}
use Rattle.checker_rules.specs.Signatures.{components_of, wrong_names, Signature, no_names, naming, names_of, merge, declare}
use Rattle.checker_rules.specs.Conditions.{refuse_if, merge_declared, merge_names, new_names, small_types, few_names, type_of, is_power, are_powers, are_members}
use Rattle.checker_rules.specs.Rules.{include_rule, reference_items, theta_items, expr_items, exprs_items, pred_items, text_items, lines_items, include_items, actual_items, schema_items, paragraph_items}
use Rattle.reader_rules.specs.Tree.{exprs_length, Expr, reference, number, integers, set, tuple, product, power, application, selection, theta, schema_set, arithmetic, comprehension, Exprs, none, more, Pred, truth, equal, member, at_most, not, connected, quantified, Text, text, Lines, end, declaration, inclusion, Include, include, Schema, plain, from, both, Paragraph, given, axiomatic, schema, abbreviation, constraint, include_node}
use mathlib.Core.Path.{◌≡◌}
use mathlib.Core.List.{List, [], ◌∷◌, ◌++◌}
use Prim.Native.Nat.{ℕ, suc, ◌+◌, ◌≤◌}
use native.Mathlib.Omega.{arith}
use Rattle.words.specs.Loops.{has}
use Rattle.reader_rules.specs.Reading.{read_of}
use Rattle.reader_rules.specs.Decode.{tree_of}
use Rattle.reader_rules.specs.TreeNumbers.{expr_numbers, exprs_numbers, pred_numbers, text_numbers, lines_numbers, include_numbers, schema_numbers, paragraph_numbers, paragraphs_numbers}
use Rattle.reader_rules.specs.Limited.{FewParameters}
use Rattle.checker_rules.specs.Unknowns.{Valuation, slot, unknown_at, given_set}
use Rattle.checker_rules.specs.Scopes.{Scope, globals, name_at, schema_named, with_parameters, include_signature, inside, text_signature, schema_signature}
use Rattle.checker_rules.specs.Entries.{add_givens, add_signature, extend}
use Rattle.checker_rules.specs.Check.{paragraphs_of}
use Rattle.checker_rules.specs.Findings.{NoSelect33, NeverAtSelect}
use Rattle.checker_rules.proofs.SignatureTerms.{none_having}
use Rattle.checker_rules.proofs.WrittenOnce.{paragraphs_once}
use Rattle.reader_rules.proofs.Sized.{SizedExpr, SizedExprs, SizedPred, SizedText, SizedLines, SizedInclude, SizedSchema, SizedParagraph, SizedParagraphs}
use Rattle.checker_rules.proofs.SizedTree.{tree_sized}
use Rattle.checker_rules.proofs.ScopeUnknowns.{FewRecorded, longer, ScopeOver, parameters_over, lines_inside, inside_over}
use Rattle.checker_rules.proofs.RuleUnknowns.{type_over, expr_over, pred_over, text_over, lines_over, schema_over}
use Rattle.checker_rules.proofs.TypingLaws.{first_has}
use Rattle.reader_rules.specs.Refusals.{Readable}
use Rattle.checker_rules.proofs.ItemForms.{bare_selects, node_selects, refuse_if_bare, new_names_bare, smalls_bare, declared_new, names_new, small_few, smalls_few, names_few, powers_node, members_node, reference_node, theta_node}
use Rattle.checker_rules.proofs.NewUnknowns.{Not, select_open, EachOnce, once_left, once_right, has_right, apart, turned, own_not, New, new_left, new_right, new_after, new_inside, Some, some_after, free_fresh, some_fresh, NewSig, new_with, new_declaration, sig_declaration, new_inclusion, sig_inclusion, other_own, actual_over}

-- ---- an Include
rule_selects : (f : NamedSchema) (i : Include) (actuals : Items) (P : Typings) → NoSelect33 actuals P → NoSelect33 (include_rule f i actuals) P
unfolding include_rule NoSelect33
rule_selects no_schema (include n s k xs rs) actuals P h = tt
rule_selects (a_schema p g) (include n s k xs rs) actuals P h = go (eqb (exprs_length xs) p)
  where
    go : (b : Bool) → NoSelect33 (cond b (actuals ⨾ refuse_if (wrong_names k rs (components_of (instance nil g))) 37 n) (refusal 32 n)) P
    go true = (h, λ p. bare_selects _ (And P actuals) (refuse_if_bare (wrong_names k rs (components_of (instance nil g))) 37 n))
    go false = tt

-- what is claimed of an expression in its scope
abbrev Selects : Expr → Scope → Type 1
Selects a Γ = (P : Typings) → New (expr_numbers a) P Γ → EachOnce (expr_numbers a) → SizedExpr a → Some P → NoSelect33 (expr_items a Γ) P

-- two expressions in turn
pair_selects : (a b : Expr) (Γ : Scope) → Selects a Γ → Selects b Γ → (P : Typings) → New (expr_numbers a ++ expr_numbers b) P Γ → EachOnce (expr_numbers a ++ expr_numbers b) → SizedExpr a → SizedExpr b → Some P
    → NoSelect33 (expr_items a Γ) P × (Passes (expr_items a Γ) P → NoSelect33 (expr_items b Γ) (And P (expr_items a Γ)))
pair_selects a b Γ x y P w o f g s =
    let A = expr_numbers a in
    let B = expr_numbers b in (
      x P (new_left A B P Γ w) (once_left A B o) f s,
      λ p. y (And P (expr_items a Γ)) (new_after A B (expr_items a Γ) P Γ (apart A B o) (λ N h k. expr_over N a Γ h f k) (new_right A B P Γ w)) (once_right A B o) g (some_after (expr_items a Γ) P s p),
    )

-- ---- the rules
mutual
  unfolding expr_items expr_numbers SizedExpr NoSelect33

  expr_selects : (a : Expr) (Γ : Scope) (P : Typings) → New (expr_numbers a) P Γ → EachOnce (expr_numbers a) → SizedExpr a → Some P → NoSelect33 (expr_items a Γ) P
  expr_selects (reference n i xs) Γ P w o f s = (
    exprs_selects xs Γ P (new_left (exprs_numbers xs) (n ∷ []) P Γ w) (once_left (exprs_numbers xs) (n ∷ []) o) f s,
    λ p. node_selects (reference_items n xs (name_at i Γ)) (And P (exprs_items xs Γ)) (reference_node n xs (name_at i Γ)),
  )
  expr_selects (number n v) Γ P w o f s = (tt, λ p. tt)
  expr_selects (integers n) Γ P w o f s = (tt, λ p. tt)
  expr_selects (set n xs) Γ P w o f s = (
    exprs_selects xs Γ P (new_left (exprs_numbers xs) (n ∷ []) P Γ w) (once_left (exprs_numbers xs) (n ∷ []) o) f s,
    λ p. (tt, λ q. (node_selects (are_members n xs) (And (And P (exprs_items xs Γ)) (fresh (slot n 1))) (members_node n xs), λ q. (tt, λ q. tt))),
  )
  expr_selects (tuple n xs) Γ P w o f s =
      (exprs_selects xs Γ P (new_left (exprs_numbers xs) (n ∷ []) P Γ w) (once_left (exprs_numbers xs) (n ∷ []) o) f.1 s, λ p. (tt, λ q. tt))
  expr_selects (product n xs) Γ P w o f s = (
    exprs_selects xs Γ P (new_left (exprs_numbers xs) (n ∷ []) P Γ w) (once_left (exprs_numbers xs) (n ∷ []) o) f.1 s,
    λ p. (node_selects (are_powers n xs 1) (And P (exprs_items xs Γ)) (powers_node n xs 1), λ q. (tt, λ q. tt)),
  )
  expr_selects (power n a) Γ P w o f s =
      (expr_selects a Γ P (new_left (expr_numbers a) (n ∷ []) P Γ w) (once_left (expr_numbers a) (n ∷ []) o) f s, λ p. ((tt, λ q. tt), λ q. (tt, λ q. tt)))
  expr_selects (application n a b) Γ P w o f s =
      let t = pair_selects a b Γ (λ Q w o f s. expr_selects a Γ Q w o f s) (λ Q w o f s. expr_selects b Γ Q w o f s) P (new_left (expr_numbers a ++ expr_numbers b) (n ∷ []) P Γ w) (once_left (expr_numbers a ++ expr_numbers b) (n ∷ []) o) f.0 f.1 s in
      (t.0, λ p. (t.1 p, λ q. (tt, λ q. tt)))
  expr_selects (selection n a i) Γ P w o f s =
      let A = expr_numbers a in
      let d = apart A (n ∷ []) o in
      let v = new_after A (n ∷ []) (expr_items a Γ) P Γ d (λ N h k. expr_over N a Γ h f k) (new_right A (n ∷ []) P Γ w) n (first_has n []) in
      let x = slot n 0 in
      let Q : Typings = And P (expr_items a Γ) in (
        expr_selects a Γ P (new_left A (n ∷ []) P Γ w) (once_left A (n ∷ []) o) f s,
        λ p. (
          tt,
          λ q. let y = some_fresh x Q (some_after (expr_items a Γ) P s p) in
              λ m r. select_open n i (type_of a) x (And Q (fresh x)) (free_fresh x x Q v.0) (type_over (Not x) a (own_not n A (λ e. d n e (first_has n [])))) y.0 y.1 m r,
        ),
      )
  expr_selects (theta n c k) Γ P w o f s = node_selects (theta_items n k (schema_named c Γ) Γ) P (theta_node n k (schema_named c Γ) Γ)
  expr_selects (schema_set n i) Γ P w o f s = (
    include_selects i Γ P (new_left (include_numbers i) (n ∷ []) P Γ w) (once_left (include_numbers i) (n ∷ []) o) f s,
    λ p. (bare_selects (small_types (include_node i) (include_signature i Γ)) (And P (include_items i Γ)) (smalls_bare (include_node i) (include_signature i Γ)), λ q. (tt, λ q. tt)),
  )
  expr_selects (arithmetic n c a b) Γ P w o f s =
      let t = pair_selects a b Γ (λ Q w o f s. expr_selects a Γ Q w o f s) (λ Q w o f s. expr_selects b Γ Q w o f s) P (new_left (expr_numbers a ++ expr_numbers b) (n ∷ []) P Γ w) (once_left (expr_numbers a ++ expr_numbers b) (n ∷ []) o) f.0 f.1 s in
      (t.0, λ p. (t.1 p, λ q. (tt, λ q. (tt, λ q. tt))))
  expr_selects (comprehension n t a) Γ P w o f s =
      let T = text_numbers t in
      let A = expr_numbers a in
      let z = new_left (T ++ A) (n ∷ []) P Γ w in
      let u = once_left (T ++ A) (n ∷ []) o in
      let d = apart T A u in (
        text_selects t Γ blank P (new_left T A P Γ z) (once_left T A u) f.0 s,
        λ p. (
          expr_selects a (inside t Γ) (And P (text_items t Γ blank))
              (new_inside T A (And P (text_items t Γ blank)) Γ (inside t Γ) d (λ N h k. inside_over N t Γ h f.0 k)
              (new_after T A (text_items t Γ blank) P Γ d (λ N h k. text_over N t Γ blank h f.0 k) (new_right T A P Γ z)))
              (once_right T A u) f.1 (some_after (text_items t Γ blank) P s p),
          λ q. (tt, λ q. tt),
        ),
      )

  exprs_selects : (xs : Exprs) (Γ : Scope) (P : Typings) → New (exprs_numbers xs) P Γ → EachOnce (exprs_numbers xs) → SizedExprs xs → Some P → NoSelect33 (exprs_items xs Γ) P
  exprs_selects none Γ P w o f s = tt
  exprs_selects (more a xs) Γ P w o f s =
      let A = expr_numbers a in
      let B = exprs_numbers xs in (
        expr_selects a Γ P (new_left A B P Γ w) (once_left A B o) f.0 s,
        λ p. exprs_selects xs Γ (And P (expr_items a Γ)) (new_after A B (expr_items a Γ) P Γ (apart A B o) (λ N h k. expr_over N a Γ h f.0 k) (new_right A B P Γ w)) (once_right A B o) f.1 (some_after (expr_items a Γ) P s p),
      )

  pred_selects : (p : Pred) (Γ : Scope) (P : Typings) → New (pred_numbers p) P Γ → EachOnce (pred_numbers p) → SizedPred p → Some P → NoSelect33 (pred_items p Γ) P
  pred_selects (truth n) Γ P w o f s = tt
  pred_selects (equal n a b) Γ P w o f s =
      let t = pair_selects a b Γ (λ Q w o f s. expr_selects a Γ Q w o f s) (λ Q w o f s. expr_selects b Γ Q w o f s) P (new_left (expr_numbers a ++ expr_numbers b) (n ∷ []) P Γ w) (once_left (expr_numbers a ++ expr_numbers b) (n ∷ []) o) f.0 f.1 s in
      (t.0, λ p. (t.1 p, λ q. tt))
  pred_selects (member n a b) Γ P w o f s =
      let t = pair_selects a b Γ (λ Q w o f s. expr_selects a Γ Q w o f s) (λ Q w o f s. expr_selects b Γ Q w o f s) P (new_left (expr_numbers a ++ expr_numbers b) (n ∷ []) P Γ w) (once_left (expr_numbers a ++ expr_numbers b) (n ∷ []) o) f.0 f.1 s in
      (t.0, λ p. (t.1 p, λ q. tt))
  pred_selects (at_most n a b) Γ P w o f s =
      let t = pair_selects a b Γ (λ Q w o f s. expr_selects a Γ Q w o f s) (λ Q w o f s. expr_selects b Γ Q w o f s) P (new_left (expr_numbers a ++ expr_numbers b) (n ∷ []) P Γ w) (once_left (expr_numbers a ++ expr_numbers b) (n ∷ []) o) f.0 f.1 s in
      (t.0, λ p. (t.1 p, λ q. tt))
  pred_selects (not n p) Γ P w o f s = pred_selects p Γ P (new_left (pred_numbers p) (n ∷ []) P Γ w) (once_left (pred_numbers p) (n ∷ []) o) f s
  pred_selects (connected n c p q) Γ P w o f s =
      let A = pred_numbers p in
      let B = pred_numbers q in
      let z = new_left (A ++ B) (n ∷ []) P Γ w in
      let u = once_left (A ++ B) (n ∷ []) o in (
        pred_selects p Γ P (new_left A B P Γ z) (once_left A B u) f.0 s,
        λ h. pred_selects q Γ (And P (pred_items p Γ)) (new_after A B (pred_items p Γ) P Γ (apart A B u) (λ N h k. pred_over N p Γ h f.0 k) (new_right A B P Γ z)) (once_right A B u) f.1 (some_after (pred_items p Γ) P s h),
      )
  pred_selects (quantified n c t p) Γ P w o f s =
      let T = text_numbers t in
      let A = pred_numbers p in
      let z = new_left (T ++ A) (n ∷ []) P Γ w in
      let u = once_left (T ++ A) (n ∷ []) o in
      let d = apart T A u in (
        text_selects t Γ blank P (new_left T A P Γ z) (once_left T A u) f.0 s,
        λ h. pred_selects p (inside t Γ) (And P (text_items t Γ blank))
            (new_inside T A (And P (text_items t Γ blank)) Γ (inside t Γ) d (λ N h k. inside_over N t Γ h f.0 k)
            (new_after T A (text_items t Γ blank) P Γ d (λ N h k. text_over N t Γ blank h f.0 k) (new_right T A P Γ z)))
            (once_right T A u) f.1 (some_after (text_items t Γ blank) P s h),
      )

  text_selects : (t : Text) (Γ : Scope) (G : Dictionary) (P : Typings) → New (text_numbers t) P Γ → EachOnce (text_numbers t) → SizedText t → Some P → NoSelect33 (text_items t Γ G) P
  text_selects (text n p ls) Γ G P w o f s =
      let A = pred_numbers p in
      let L = lines_numbers ls in
      let t = lines_items ls Γ G no_names in
      let z = new_left (A ++ L) (n ∷ []) P Γ w in
      let u = once_left (A ++ L) (n ∷ []) o in
      let d = turned A L (apart A L u) in (
        lines_selects ls Γ G no_names P (new_right A L P Γ z) (λ m q. none_having (Each (Not (slot m 0)))) (once_right A L u) f.1 s,
        λ h. pred_selects p (inside (text n p ls) Γ) (And P t)
            (new_inside L A (And P t) Γ (inside (text n p ls) Γ) d (λ N h k. lines_inside N n p ls Γ h f.1 k)
            (new_after L A t P Γ d (λ N h k. lines_over N ls Γ G no_names h f.1 k (none_having (Each N))) (new_left A L P Γ z)))
            (once_left A L u) f.0 (some_after t P s h),
      )

  lines_selects : (ls : Lines) (Γ : Scope) (G : Dictionary) (r : Signature) (P : Typings) → New (lines_numbers ls) P Γ → NewSig (lines_numbers ls) r → EachOnce (lines_numbers ls) → SizedLines ls → Some P
      → NoSelect33 (lines_items ls Γ G r) P
  lines_selects end Γ G r P w k o f s = tt
  lines_selects (declaration n a is ls) Γ G r P w k o f s =
      let A = expr_numbers a ++ (n ∷ []) in
      let L = lines_numbers ls in
      let r' = declare is (unknown_at n 0) r in
      let x = piece n (expr_items a Γ ⨾ is_power n 0 a) in
      let m = merge_declared n is (unknown_at n 0) r ⨾ new_names n is G in
      let c = small n (unknown_at n 0) ⨾ few_names n r' in
      let d = apart A L o in
      let k' : NewSig L r = λ j q. k j (has_right j A L q) in
      let w' = new_right A L P Γ w in (
        (expr_selects a Γ P (new_left (expr_numbers a) (n ∷ []) P Γ (new_left A L P Γ w)) (once_left (expr_numbers a) (n ∷ []) (once_left A L o)) f.0 s, λ p. (tt, λ p. tt)),
        λ p. (
          bare_selects m (And P x) (declared_new n is (unknown_at n 0) r G),
          λ q. (
            bare_selects c (And (And P x) m) (small_few n (unknown_at n 0) r'),
            λ h. lines_selects ls Γ G r' (And (And (And P x) m) c) (new_declaration n a is L Γ G r P d f.0 w' k') (sig_declaration n a is L Γ G r P d f.0 w' k') (once_right A L o) f.1
                (some_after c (And (And P x) m) (some_after m (And P x) (some_after x P s p) q) h),
          ),
        ),
      )
  lines_selects (inclusion i ls) Γ G r P w k o f s =
      let A = include_numbers i in
      let L = lines_numbers ls in
      let b = include_signature i Γ in
      let r' = merge b r in
      let x = include_items i Γ in
      let m = merge_names (include_node i) b r ⨾ new_names (include_node i) (names_of b) G in
      let c = small_types (include_node i) b ⨾ few_names (include_node i) r' in
      let d = apart A L o in
      let k' : NewSig L r = λ j q. k j (has_right j A L q) in
      let w' = new_right A L P Γ w in (
        include_selects i Γ P (new_left A L P Γ w) (once_left A L o) f.0 s,
        λ p. (
          bare_selects m (And P x) (names_new (include_node i) b r (names_of b) G),
          λ q. (
            bare_selects c (And (And P x) m) (smalls_few (include_node i) b r'),
            λ h. lines_selects ls Γ G r' (And (And (And P x) m) c) (new_inclusion i L Γ G r P d f.0 w' k') (sig_inclusion i L Γ G r P d f.0 w' k') (once_right A L o) f.1
                (some_after c (And (And P x) m) (some_after m (And P x) (some_after x P s p) q) h),
          ),
        ),
      )

  include_selects : (i : Include) (Γ : Scope) (P : Typings) → New (include_numbers i) P Γ → EachOnce (include_numbers i) → SizedInclude i → Some P → NoSelect33 (include_items i Γ) P
  include_selects (include n c k xs rs) Γ P w o f s =
      let X = exprs_numbers xs in
      rule_selects (schema_named c Γ) (include n c k xs rs) (actual_items xs n 1 Γ) P
      (actuals_selects xs n 1 Γ P (λ q. apart X (n ∷ []) o n q (first_has n [])) (omega (arith, f.0)) (new_left X (n ∷ []) P Γ w) (once_left X (n ∷ []) o) f.1 s)

  actuals_selects : (xs : Exprs) (n k : ℕ) (Γ : Scope) (P : Typings) → (has n (exprs_numbers xs) ≡ true → ⊥) → k + exprs_length xs ≤ 7 → New (exprs_numbers xs) P Γ → EachOnce (exprs_numbers xs) → SizedExprs xs → Some P
      → NoSelect33 (actual_items xs n k Γ) P
  actuals_selects none n k Γ P h l w o f s = tt
  actuals_selects (more a xs) n k Γ P h l w o f s =
      let A = expr_numbers a in
      let B = exprs_numbers xs in
      let x = piece n (expr_items a Γ ⨾ is_power n k a) in
      let u = longer k a xs l in
      let w' = new_right A B P Γ w in
      let h' : has n B ≡ true → ⊥ = λ q. h (has_right n A B q) in (
        (expr_selects a Γ P (new_left A B P Γ w) (once_left A B o) f.0 s, λ p. (tt, λ p. tt)),
        λ p. actuals_selects xs n (suc k) Γ (And P x) h' u.1
            (new_with B x P Γ (λ m q. actual_over (Not (slot m 0)) a n k Γ (other_own n m B h' q) u.0 (own_not m A (λ e. apart A B o m e q)) f.0 (w' m q).1) w')
            (once_right A B o) f.1 (some_after x P s p),
      )

schema_selects : (x : Schema) (Γ : Scope) (P : Typings) → New (schema_numbers x) P Γ → EachOnce (schema_numbers x) → SizedSchema x → Some P → NoSelect33 (schema_items x Γ) P
unfolding schema_items schema_numbers SizedSchema NoSelect33
schema_selects (plain t) Γ P w o f s = text_selects t Γ blank P w o f s
schema_selects (from i) Γ P w o f s =
    (include_selects i Γ P w o f s, λ p. bare_selects (small_types (include_node i) (include_signature i Γ)) (And P (include_items i Γ)) (smalls_bare (include_node i) (include_signature i Γ)))
schema_selects (both n a b) Γ P w o f s =
    let A = schema_numbers a in
    let B = schema_numbers b in
    let z = new_left (A ++ B) (n ∷ []) P Γ w in
    let u = once_left (A ++ B) (n ∷ []) o in (
      schema_selects a Γ P (new_left A B P Γ z) (once_left A B u) f.0 s,
      λ p. (
        schema_selects b Γ (And P (schema_items a Γ)) (new_after A B (schema_items a Γ) P Γ (apart A B u) (λ N h k. schema_over N a Γ h f.0 k) (new_right A B P Γ z)) (once_right A B u) f.1 (some_after (schema_items a Γ) P s p),
        λ q. bare_selects (merge_names n (schema_signature b Γ) (schema_signature a Γ) ⨾ few_names n (merge (schema_signature b Γ) (schema_signature a Γ))) (And (And P (schema_items a Γ)) (schema_items b Γ))
            (names_few n (schema_signature b Γ) (schema_signature a Γ) (merge (schema_signature b Γ) (schema_signature a Γ))),
      ),
    )

-- ---- a paragraph, from the start
module _ (D : Dictionary) (d : FewRecorded D) where
  new_start : (l : List ℕ) (ps : List ℕ) → New l Any (with_parameters ps 1 (globals D))
  unfolding ScopeOver
  new_start l ps m q = (λ τ g h. tt, parameters_over (Not (slot m 0)) ps 1 (globals D) d)

  some_start : Some Any
  some_start = ((λ x. integer_type), tt)

  paragraph_selects : (p : Paragraph) → EachOnce (paragraph_numbers p) → SizedParagraph p → NoSelect33 (paragraph_items p D) Any
  unfolding paragraph_items paragraph_numbers SizedParagraph NoSelect33 with_parameters
  paragraph_selects (given n is) o f = bare_selects (new_names n is D) Any (new_names_bare n is D)
  paragraph_selects (axiomatic n t) o f = text_selects t (globals D) D Any (new_start (text_numbers t) []) (once_left (text_numbers t) (n ∷ []) o) f some_start
  paragraph_selects (schema n c ps x) o f =
      schema_selects x (with_parameters ps 1 (globals D)) Any (new_start (schema_numbers x) ps) (once_left (schema_numbers x) (n ∷ []) o) f some_start
  paragraph_selects (abbreviation n i ps a) o f = (
    expr_selects a (with_parameters ps 1 (globals D)) Any (new_start (expr_numbers a) ps) (once_left (expr_numbers a) (n ∷ []) o) f some_start,
    λ p. (bare_selects (new_names n (i ∷ []) D) (And Any (piece n (expr_items a (with_parameters ps 1 (globals D))))) (new_names_bare n (i ∷ []) D), λ q. tt),
  )
  paragraph_selects (constraint n p) o f = pred_selects p (globals D) Any (new_start (pred_numbers p) []) (once_left (pred_numbers p) (n ∷ []) o) f some_start

-- ---- dictionaries keep few parameters
givens_few : (is : List ℕ) (D : Dictionary) → FewRecorded D → FewRecorded (add_givens is D)
unfolding add_givens FewRecorded
givens_few [] D h = h
givens_few (i ∷ is) D h = givens_few is (D ▸ name_entry i 0 (given_set i)) (h, omega arith)

signature_few : (s : Signature) (τ : Valuation) (D : Dictionary) → FewRecorded D → FewRecorded (add_signature s τ D)
unfolding add_signature FewRecorded
signature_few no_names τ D h = h
signature_few (naming i t s) τ D h = signature_few s τ (D ▸ name_entry i 0 (under τ t)) (h, omega arith)

pub extend_few : (p : Paragraph) (D : Dictionary) (τ : Valuation) → FewParameters p → FewRecorded D → FewRecorded (extend p D τ)
unfolding extend FewRecorded
extend_few (given n is) D τ f h = givens_few is D h
extend_few (axiomatic n t) D τ f h = signature_few (text_signature t (globals D)) τ D h
extend_few (schema n c ps x) D τ f h = h
extend_few (abbreviation n i ps a) D τ f h = (h, f)
extend_few (constraint n p) D τ f h = h

paragraphs_select : (ps : List Paragraph) (D : Dictionary) → EachOnce (paragraphs_numbers ps) → SizedParagraphs ps → FewRecorded D → NeverAtSelect ps D
unfolding NeverAtSelect paragraphs_numbers SizedParagraphs
paragraphs_select [] D o f d = tt
paragraphs_select (p ∷ ps) D o f d = (
  paragraph_selects D d p (once_left (paragraph_numbers p) (paragraphs_numbers ps) o) f.0,
  λ τ h. paragraphs_select ps (extend p D τ) (once_right (paragraph_numbers p) (paragraphs_numbers ps) o) f.1 (extend_few p D τ f.2 d),
)

-- 33 NEVER COMES AT A SELECT of a readable document.
pub never_at_select : (doc : List ℕ) → read_of doc ≡ Readable → NeverAtSelect (paragraphs_of (tree_of doc)) blank
never_at_select doc r = paragraphs_select (paragraphs_of (tree_of doc)) blank (paragraphs_once doc r) (tree_sized doc r) (unfold FewRecorded in tt)
