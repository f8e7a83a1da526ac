-- The nodes of a coded document: their words, and the tree that their operands make (document 01, "The coded document").
use Rattle.std.specs.Prelude.{ℕ, zero, suc, ◌-◌, List, [], ◌∷◌, cond, length, get_or, eqb}
use Rattle.words.specs.Loops.{joined, has, occurrences}
use Rattle.layout.specs.declared.Form.{Form}
use Rattle.layout.specs.Layout.{count, part}
use Rattle.reader_rules.specs.Kinds.{sort_at, is_node_sort}

-- the words of a document, at most
abbrev pub document_words : ℕ
document_words = 16384

-- 1 to 1,024 nodes, each of at least 1 word, at most 16,384 words
abbrev pub document_form : Form
document_form = record { fewest = 1; most = 1024; shortest = 1; longest = document_words }

-- a node's words are the kind, then operands
abbrev pub kind_at : List ℕ → ℕ → ℕ
kind_at doc k = get_or (part doc k) 0 0

abbrev pub operand_at : List ℕ → ℕ → ℕ → ℕ
operand_at doc k i = get_or (part doc k) i 0

-- those of the m operands from i on that name nodes
unfoldable pub nodes_among : List ℕ → ℕ → ℕ → List ℕ
nodes_among w i zero = []
nodes_among w i (suc m) = cond (is_node_sort (sort_at w i)) (get_or w i 0 ∷ nodes_among w (suc i) m) (nodes_among w (suc i) m)

-- the nodes that are operands of node k, in operand order
unfoldable pub children : List ℕ → ℕ → List ℕ
children doc k = nodes_among (part doc k) 1 (length (part doc k) - 1)

-- how often node k is used: the number of operand words, of all nodes, that name it
unfoldable pub uses : List ℕ → ℕ → ℕ
uses doc k = occurrences k (joined (children doc) 1 (count doc))

-- the node that has k as an operand, 0 for none. (Where several have, the highest of them; finding 15 refuses such a document.)
unfoldable pub parent_among : List ℕ → ℕ → ℕ → ℕ
parent_among doc k zero = 0
parent_among doc k (suc j) = cond (has k (children doc (suc j))) (suc j) (parent_among doc k j)

unfoldable pub parent : List ℕ → ℕ → ℕ
parent doc k = parent_among doc k (count doc)

-- the nodes above k, from its parent up to the Document, as far as n of them; a document has no more than 1,024
unfoldable pub above : List ℕ → ℕ → ℕ → List ℕ
above doc zero k = []
above doc (suc n) k = cond (eqb (parent doc k) 0) [] (parent doc k ∷ above doc n (parent doc k))

abbrev pub ancestors : List ℕ → ℕ → List ℕ
ancestors doc k = above doc 1024 k
