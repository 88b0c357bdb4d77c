-- Theorems about removal, on words:
--   Calls            the three calls by document 01's rules: nodes gone in order, the forest after, ready again, turns to spare
--   GoneLaws.gone-answers, gone-lost   every other identifier is found as before, those gone are not
-- Below them: a node freed (FreeWords, FreeChain), a removal on its way (Stands), the loop (Loop, Below), a node taken out (Alone,
-- TreeStays), children in another place (Hoisted), the rules as edits of chains (NodeRule, SubtreeRule).
-- Calls, Children, SubtreeGone, NodeGone and Below stand in proofs/.
pub mod Gone
pub mod GoneLaws
pub mod Queue
pub mod FreeWords
pub mod FreeChain
pub mod Stands
pub mod Loop
pub mod TreeStays
pub mod Alone
pub mod Hoisted
pub mod NodeRule
pub mod FreeRoot
pub mod SubtreeRule
