-- One claim: of each of the fourteen specimens the definitions say what docs/format/SPECIMENS.md, section 1, says. And
-- the two lookups.
use mathlib.Core.List.{map}
use mathlib.Core.Path.{◌≡◌, refl}
use Rattle.json_model.specs.Bytes.{number}
use Rattle.json_model.specs.Choose.{choose}
use Rattle.json_model.specs.Number.{finite, magnitude, float_tree, whole_tree, signed_tree}
use Rattle.json_model.specs.Reading.{follow, ◌>>=◌, need, ask}
use Rattle.json_model.specs.Texts.{by_numbers, compare_texts}
use Rattle.binary_json_rules.specs.Areas as B
use Rattle.binary_json_rules.specs.Marks as BM
use Rattle.binary_json_rules.specs.Verdict as BV
use Rattle.binary_json_rules.specs.TreeOf as BT
use Rattle.binary_json_rules.specs.Questions as BQ
use Rattle.binary_json_rules.specs.Halving as BH
use Rattle.binary_json_rules.specs.Lookup as BL
use Rattle.fractured_json_rules.specs.ByteTables as F
use Rattle.fractured_json_rules.specs.Meaning as FM
use Rattle.fractured_json_rules.specs.KeyList as FL
use Rattle.fractured_json_rules.specs.Verdict as FV
use Rattle.fractured_json_rules.specs.TreeOf as FT
use Rattle.specimens.specs.Specimens.{says_of, specimens, a_true, key_a, key_b, lookup_a, lookup_b}

pub specimens_hold : map (λ s. says_of s.format s.doc) specimens ≡ map (λ s. s.says) specimens
unfolding follow ◌>>=◌ need choose number finite magnitude float_tree whole_tree signed_tree by_numbers compare_texts B.index B.count B.slot B.text B.content B.numbers B.kind_of B.type_of BV.header BV.ascends BV.slot_rules BV.slots BV.slot_named BV.number_named BV.key_entries BV.entry_by BV.entry BV.entries BV.mark_body BV.container_by BV.container BV.scalar BV.root_by BV.lent BV.all_marked BV.check BM.words BM.clear BM.fill BM.unmarked BT.entry_tree_by BT.entry_tree BT.entry_trees BT.member_trees BT.container_tree_by BT.container_tree BT.tree_of F.form_of F.key_form_of FM.tiny_tree FV.header FV.byte_at FV.payload FV.length_at FV.text_at FV.after_second FV.after_first FV.key_number_at FV.in_turn FV.member FV.value_by FV.value FV.key_by FL.met FL.names_from FL.key_list FV.new_key FV.old_key FV.listed_key FV.check_key FV.document FV.check FT.spelled_in FT.key_end FL.steps FL.name_of FT.end_by FT.end_at FT.key_text_at FT.value_trees FT.member_trees FT.tree_by FT.tree_at FT.tree_of
specimens_hold = refl

pub lookups_hold : (BL.lookup_of (ask (BL.quick_lookup a_true 4 key_a)) ≡ lookup_a) × (BL.lookup_of (ask (BL.quick_lookup a_true 4 key_b)) ≡ lookup_b)
unfolding follow ◌>>=◌ need choose number by_numbers compare_texts B.index B.count B.slot B.text B.numbers BV.header BQ.opening BQ.tree_word BQ.body BQ.object_here BQ.slot_read BH.turn BH.halve_if BH.halve_from BH.halve BL.after_keys BL.after_strings BL.quick_here BL.quick_lookup BL.lookup_of
lookups_hold = (refl, refl)
