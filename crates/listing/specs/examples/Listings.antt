-- Texts and what the programs print on them, the first document 01's own. That each prints so is proved in `proofs/Judged.antt`; longer ones are in the
-- crate `examples`.
use Rattle.std.specs.Prelude.{ℕ, List, [], ◌∷◌, replicate}
use Rattle.elements.specs.rules.Bytes.{codes}
use Rattle.document.specs.rules.Spelling.{Spelling, nested, imperative}
use Rattle.listing.specs.Listing.{printed}

pub record Example : Type 0 where
  pub spelling : Spelling
  pub text : List ℕ
  pub lines : List ℕ

unfoldable pub listed : Example → List ℕ
listed e = printed e.spelling e.text

unfoldable pub examples : List Example
examples =
    record {
      spelling = imperative;
      text = codes "[document [title A]] [section [title B]] [paragraph] hi";
      lines = codes "nodes 8 pool 4\n0 1 - 8\n1 8 0 3\n2 9 1 3\n3 3 0 8\n4 8 3 6\n5 9 4 6\n6 5 3 8\n7 9 6 8\n";
    }
    ∷ record { spelling = nested; text = []; lines = codes "refused 7 1:1\n" }
    ∷ record { spelling = nested; text = codes "[document [title A] [id x] [section [title B] [id x]]]"; lines = codes "refused 16 1:28\n" }
    -- 32,768 bytes are read, and one more is not.
    ∷ record { spelling = nested; text = replicate 32768 0x80; lines = codes "refused 2 1:1\n" }
    ∷ record { spelling = nested; text = replicate 32769 0x80; lines = codes "too long\n" }
    ∷ []
