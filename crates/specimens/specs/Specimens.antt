-- The fourteen documents of docs/format/SPECIMENS.md, section 1, each with what it says of it: the tree, or the number
-- and place of its refusal. And the two lookups it gives for {"a":true}.
use Rattle.std.specs.Prelude.{ℕ, true, false, List, [], ◌∷◌, length, replicate}
use Rattle.json_model.specs.Bytes.{hex}
use Rattle.json_model.specs.Limits.{most_keys}
use Rattle.json_model.specs.Number.{scaled}
use Rattle.json_model.specs.Reading.{Outcome, halt, done, answers}
use Rattle.json_model.specs.Tree.{Tree, null, bool, num, arr, obj, none, more, end, member}
use Rattle.binary_json_rules.specs.Verdict as Binary
use Rattle.binary_json_rules.specs.TreeOf as BinaryTree
use Rattle.binary_json_rules.specs.Lookup.{entry, absent, Lookup, lookup}
use Rattle.fractured_json_rules.specs.KeyList.{no_names}
use Rattle.fractured_json_rules.specs.Verdict as Fractured
use Rattle.fractured_json_rules.specs.Meaning.{Keys}
use Rattle.fractured_json_rules.specs.TreeOf as FracturedTree

pub data Format : Type 0 where
  binary_json fractured_json : Format

pub data Says : Type 0 where
  means : Tree → Says
  refused : (number place : ℕ) → Says

-- what the definitions say of a document, BinaryJson with marks enough, Fractured JSON with a key list without a name:
-- the tree of an accepted one, or the refusal
abbrev pub of_binary : List ℕ → Outcome (List ℕ) (Unit {0}) → Says
of_binary doc (halt number place marks) = refused number place
of_binary doc (done a marks) = means (BinaryTree.tree_of doc)

abbrev pub of_fractured : ℕ → List ℕ → Outcome Keys (Unit {0}) → Says
of_fractured room doc (halt number place ks) = refused number place
of_fractured room doc (done a ks) = means (FracturedTree.tree_of room doc no_names)

abbrev pub says_of : Format → List ℕ → Says
says_of binary_json doc = of_binary doc (Binary.verdict doc (replicate (length doc) 0))
says_of fractured_json doc = of_fractured most_keys doc (Fractured.verdict most_keys doc no_names)

pub record Specimen : Type 0 where
  pub format : Format
  pub doc : List ℕ
  pub says : Says

abbrev pub binary : List ℕ → Says → Specimen
binary d s = record { format = binary_json; doc = d; says = s }

abbrev pub fractured : List ℕ → Says → Specimen
fractured d s = record { format = fractured_json; doc = d; says = s }

-- ---- the trees

abbrev pub key_a : List ℕ
key_a = hex 1 0x61

abbrev pub key_b : List ℕ
key_b = hex 1 0x62

abbrev pub whole : ℕ → Tree
whole n = num false (scaled n)

abbrev pub minus : ℕ → Tree
minus n = num true (scaled n)

abbrev pub object : Tree → Tree
object v = obj (member key_a v end)

-- ---- the fourteen

-- {"a":true}
abbrev pub a_true : List ℕ
a_true = hex 26 0x0102000021000000140000000100000001000000400300006100

abbrev pub specimens : List Specimen
specimens =
    binary (hex 12 0x010100000000000000000000) (means (arr none))
    ∷ binary (hex 11 0x0101000000000000000000) (refused 1 11)
    ∷ binary (hex 12 0x020100000000000000000000) (refused 3 0)
    ∷ binary (hex 12 0x010100000300000000000000) (refused 8 4)
    ∷ binary a_true (means (object (bool true)))
    ∷ binary (hex 26 0x0102000021000000140000000100000001000000400300006101) (refused 5 20)
    ∷ binary (hex 24 0x81010000220000000402000000000000000000000000F03F) (means (whole 1))
    ∷ binary (hex 16 0x81010000200000008500000000000000) (refused 9 8)
    ∷ fractured (hex 7 0x464A016F046102) (means (object (bool true)))
    ∷ fractured (hex 6 0x464A01A0BEFD) (means (arr (more (minus 32) (more (whole 31) none))))
    ∷ fractured (hex 11 0x464A01A06F0461006F57DF) (means (arr (more (object null) (more (object (whole 1)) none))))
    ∷ fractured (hex 4 0x464A01FE) (refused 36 3)
    ∷ fractured (hex 6 0x464A016F5700) (refused 38 4)
    ∷ fractured (hex 10 0x464A0170046100046101) (refused 39 7)
    ∷ []

-- ---- the lookups in {"a":true}, whose object stands at 4

-- "a" is the Entry at 12, counts 1 and 1; "b" is absent, 1 and 0
abbrev pub lookup_a : Lookup
lookup_a = lookup (answers (entry 12)) 1 1

abbrev pub lookup_b : Lookup
lookup_b = lookup (answers absent) 1 0
