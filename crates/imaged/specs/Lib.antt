-- Theorems about the image.
--   Within.save-writes, save-done   save writes exactly on ready memory that fits, into room enough
--   Within.save_image               the bytes, cut at the answer, are the image
--   Within.save-within              save never writes past its answer
--   Back.load-back, load_same       the image of ready memory loads as that memory: words of the slots in use, header
--   Back.load_tree                  and so the tree
--   Back.save-load                  the two calls one after the other
--   Accepted.load_accepts           load accepts exactly whole images of version 1 that fit and are sound
--   Accepted.load-ready             what it accepts is ready once it is there
--   Accepted.load-order             its free chain is the image's without the spent slots, in order
--   Unlinked.spent_none, words-kept, numbers-kept   what unlinking changes, and that it changes nothing else
--   Again.load_saves, load-save     an image loaded and saved gives the same bytes exactly when it was ready
--   Vectors.P2_image, P2-saved      document 01's P2: 95 bytes
pub mod Chains
pub mod UnlinkChain
pub mod Unlinked
pub mod Slots
pub mod Accepted
pub mod Within
pub mod Back
pub mod Again
pub mod Vectors
