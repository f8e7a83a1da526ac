-- TWO TREES ARE THE SAME exactly where one is a renumbering of the other by a function that is injective on its nodes.
use mathlib.Core.Path.{◌≡◌, refl, ap, sym, ◌∙◌, subst}
use mathlib.Core.List.{List, [], ◌∷◌, map}
use mathlib.Core.Logic.{◌↔◌}
use mathlib.Core.Bool.{Bool, true, false, cond}
use Prim.Native.Nat.{ℕ, suc, ◌≤◌}
use native.Mathlib.Omega.{arith}
use lib.ListN.{length, length-map}
use Rattle.words.specs.Loops.{has, occurrences}
use Rattle.words.proofs.Lists.{has_once}
use Rattle.layout.specs.Layout.{count}
use Rattle.reader_rules.specs.Kinds.{between}
use Rattle.reader_rules.specs.Reading.{read_of}
use Rattle.reader_rules.specs.Refusals.{Readable}
use Rattle.reader_rules.specs.Tree.{Document}
use Rattle.reader_rules.specs.TreeNumbers.{node_numbers}
use Rattle.reader_rules.specs.Decode.{tree_of}
use Rattle.reader_rules.proofs.TreeNodes.{each_node_once}
use Rattle.canonical_rules.specs.MapNodes.{map_nodes, Same}
use Rattle.canonical_rules.specs.Numbered.{number_document}
use Rattle.canonical_rules.specs.Positions.{Distinct, carry, InjectiveOn}
use Rattle.canonical_rules.proofs.Lists.{Along}
use Rattle.canonical_rules.proofs.Renumbered.{Gives, node_numbers_lem, document_forgets, back_document}
use Rattle.canonical_rules.proofs.Positions.{from_place, gives, carry_map, carry_injective, once_distinct}

-- A tree is given by its numbered form and its numbers.
module _ (t u : Document) (e : number_document t ≡ number_document u) (q : node_numbers t ≡ node_numbers u) where
  pub tree_ext : t ≡ u
  tree_ext =
      sym (back_document (from_place 0 (node_numbers u)) t (subst (λ l. Along (Gives (from_place 0 (node_numbers u))) 1 l) (sym q) (gives 0 (node_numbers u))))
      ∙ ap (map_nodes (from_place 0 (node_numbers u))) e
      ∙ back_document (from_place 0 (node_numbers u)) u (gives 0 (node_numbers u))

-- the same tree: as many nodes, the same numbered form
pub same_length : (t u : Document) → Same t u → length (node_numbers t) ≡ length (node_numbers u)
same_length t u s =
    sym (length-map (node_numbers t) (λ n. 0)) ∙ ap length (sym (node_numbers_lem (λ n. 0) t) ∙ ap node_numbers s ∙ node_numbers_lem (λ n. 0) u) ∙ length-map (node_numbers u) (λ n. 0)

pub same_numbered : (t u : Document) → Same t u → number_document t ≡ number_document u
same_numbered t u s = sym (document_forgets (λ n. 0) t) ∙ ap number_document s ∙ document_forgets (λ n. 0) u

zeros : (l : List ℕ) (o : ℕ) → Along (Gives (λ n. 0)) o (map (λ n. 0) l)
zeros [] o = tt
zeros (x ∷ l) o = (refl, zeros l (suc o))

-- the numbered form is the same tree
pub numbered_bare : (t : Document) → Same (number_document t) t
numbered_bare t =
    ap (map_nodes (λ n. 0)) (sym (document_forgets (λ n. 0) t))
    ∙ back_document (λ n. 0) (map_nodes (λ n. 0) t) (subst (λ l. Along (Gives (λ n. 0)) 1 l) (sym (node_numbers_lem (λ n. 0) t)) (zeros (node_numbers t) 1))

pub numbered_same : (t u : Document) → number_document t ≡ number_document u → Same t u
numbered_same t u e = sym (numbered_bare t) ∙ ap (map_nodes (λ n. 0)) e ∙ numbered_bare u

-- a renumbering is the same tree
pub renumbered_same : (f : ℕ → ℕ) (t : Document) → Same t (map_nodes f t)
renumbered_same f t = numbered_same t (map_nodes f t) (sym (document_forgets f t))

module _ (t u : Document) (d : Distinct (node_numbers t)) (s : Same t u) where
  -- and the same tree is a renumbering
  pub same_renumbered : map_nodes (carry (node_numbers t) (node_numbers u)) t ≡ u
  same_renumbered =
      let c = carry (node_numbers t) (node_numbers u) in
      tree_ext (map_nodes c t) u (document_forgets c t ∙ same_numbered t u s) (node_numbers_lem c t ∙ carry_map (node_numbers t) (node_numbers u) d (same_length t u s))

pub same_exactly : (t u : Document) → Distinct (node_numbers t) → Distinct (node_numbers u) → Same t u ↔ ((f : ℕ → ℕ) × InjectiveOn (node_numbers t) f × (map_nodes f t ≡ u))
same_exactly t u d e = (
  λ s. (carry (node_numbers t) (node_numbers u), carry_injective (node_numbers t) (node_numbers u) e (same_length t u s), same_renumbered t u d s),
  λ r. subst (λ v. Same t v) r.2 (renumbered_same r.0 t),
)

-- A READABLE DOCUMENT has each number once.
once_cond : (b : Bool) → cond b 1 0 ≤ 1
once_cond true = omega arith
once_cond false = omega arith

pub readable_distinct : (doc : List ℕ) → read_of doc ≡ Readable → Distinct (node_numbers (tree_of doc))
readable_distinct doc r = once_distinct (node_numbers (tree_of doc)) (λ k. subst (λ z. z ≤ 1) (sym (each_node_once doc r k)) (once_cond (between 1 k (count doc))))

-- 0 is no node
pub no_zero : (doc : List ℕ) → read_of doc ≡ Readable → has 0 (node_numbers (tree_of doc)) ≡ false
no_zero doc r = go (has 0 (node_numbers (tree_of doc))) refl
  where
    go : (b : Bool) → has 0 (node_numbers (tree_of doc)) ≡ b → b ≡ false
    go true e = let x : occurrences 0 (node_numbers (tree_of doc)) ≡ 0 = each_node_once doc r 0 in absurd (omega (arith, has_once 0 (node_numbers (tree_of doc)) e))
    go false e = refl
