-- ONE CODING PER TREE (document 02, ask 3): the canonical words of two trees are equal exactly where the trees are the same.
use mathlib.Core.Path.{◌≡◌, ap, sym, ◌∙◌}
use mathlib.Core.Logic.{◌↔◌}
use Rattle.reader_rules.specs.Tree.{Document}
use Rattle.reader_rules.specs.Decode.{tree_of}
use Rattle.canonical_rules.specs.MapNodes.{map_nodes, Same}
use Rattle.layout.specs.Rows.{lay_out}
use Rattle.canonical_rules.specs.Canonical.{document_rows, canonical_of}
use Rattle.canonical_rules.proofs.SameTrees.{same_numbered, numbered_same, numbered_bare}
use Rattle.canonical_rules.proofs.CanonicalRead.{canonical_read}

pub same_words_lem : (t u : Document) → Same t u → canonical_of t ≡ canonical_of u
unfolding canonical_of
same_words_lem t u s = ap (λ x. lay_out (document_rows x)) (same_numbered t u s)

pub words_same : (t u : Document) → canonical_of t ≡ canonical_of u → Same t u
words_same t u e = numbered_same t u (sym (canonical_read t) ∙ ap tree_of e ∙ canonical_read u)

pub one_coding : (t u : Document) → Same t u ↔ (canonical_of t ≡ canonical_of u)
one_coding t u = (same_words_lem t u, words_same t u)

-- the canonical words have the same tree; coding them again changes nothing
pub canonical_same : (t : Document) → Same (tree_of (canonical_of t)) t
canonical_same t = ap (map_nodes (λ n. 0)) (canonical_read t) ∙ numbered_bare t

pub canonical_again : (t : Document) → canonical_of (tree_of (canonical_of t)) ≡ canonical_of t
canonical_again t = same_words_lem (tree_of (canonical_of t)) t (canonical_same t)
