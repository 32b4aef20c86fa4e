-- Long texts, and what the listing programs print on them. That each prints so is proved in `proofs/Listings.antt`.
use Rattle.std.specs.Prelude.{ℕ, zero, suc, List, [], ◌∷◌, ◌++◌, replicate}
use Rattle.elements.specs.rules.Bytes.{codes}
use Rattle.document.specs.rules.Spelling.{nested}
use Rattle.listing.specs.examples.Listings.{Example}

-- So many texts of one letter, each behind a space.
unfoldable pub letters : ℕ → List ℕ
letters zero = []
letters (suc n) = 0x20 ∷ 0x61 ∷ letters n

-- A document of six more nodes than it has letters, and with a link to nothing: it is refused by 17 where there is room for it, and by 13 where there is none.
unfoldable pub crowd : ℕ → List ℕ
crowd n = codes "[document [title" ++ (letters n ++ codes "] [section [title] [paragraph [link [target x]]]]]")

unfoldable pub listings : List Example
listings =
    -- There is room for 1,024 nodes, and for no more.
    record { spelling = nested; text = crowd 1018; lines = codes "refused 17 1:2083\n" }
    ∷ record { spelling = nested; text = crowd 1019; lines = codes "refused 13 1:1\n" }
    -- Of 32,768 bytes all but 18 fill the pool, which is the most: brackets, names and one space have to stand beside them.
    ∷ record {
      spelling = nested;
      text = codes "[document[title " ++ (replicate 32750 0x61 ++ codes "]]");
      lines = codes "nodes 3 pool 32750\n0 1 - 3\n1 8 0 3\n2 9 1 3\n";
    }
    ∷ []
