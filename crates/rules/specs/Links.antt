-- The five links of a node, as functions from identifiers to identifiers: a view. What memory's words say is `view m`.
-- Excluded: reading the parent from the word of the previous sibling; reading a link of none as that of slot 1 (none has none).
use Rattle.std.specs.Prelude.{List, ℕ}
use Rattle.link.specs.Words.{PARENT, PREVIOUS, NEXT, FIRST, LAST, link}

-- Parent, previous sibling, next sibling, first child, last child.
pub data Link : Type 0 where
  par prv nxt fst lst : Link

-- The word of a slot that holds it.
abbrev pub word_of : Link → ℕ
word_of par = PARENT
word_of prv = PREVIOUS
word_of nxt = NEXT
word_of fst = FIRST
word_of lst = LAST

abbrev pub View : Type 0
View = Link → ℕ → ℕ

abbrev pub view : List ℕ → View
view m k x = link m x (word_of k)
