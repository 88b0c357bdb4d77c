-- Theorems that rest on those of specs/.
pub mod ExactLaws
