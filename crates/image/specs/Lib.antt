-- Definitions: the image (Image), save (Save), load (Load) and the unlinking of spent slots (Unlink). The rest are laws about them.
pub mod Image
pub mod Save
pub mod Unlink
pub mod Load
pub mod Same
pub mod ImageLaws
pub mod SaveLaws
pub mod UnlinkLaws
pub mod UnlinkAppend
pub mod UnlinkReady
pub mod LoadLaws
pub mod LoadCalls
