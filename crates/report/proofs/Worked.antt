-- Reports with one ambiguous key, worked out: the key has a quotation mark and a backslash, which are escaped. In the first no
-- packet was passed over or dropped, in the second some were passed over, in the third some were dropped, in the fourth a window
-- is declared, and three keys stand alone, and in the fifth some packets are of another interface.
use Rattle.std.proofs.Common.{◌≡◌, List, [], ◌∷◌, ℕ, Option, Some, None, false, codes, refl}
use Rattle.std.specs.Fmt.{digits}
use Rattle.serde_json.proofs.OnLiterals.{serde_json_on_literals}
use Rattle.report.specs.declared.view.NoKeys.{NoKeys}
use Rattle.report.specs.declared.view.PassedSums.{PassedSums}
use Rattle.report.specs.Report.{Reported, ReportedDrops, ReportedKey, report_line}

abbrev worked_nokeys : ℕ → NoKeys
worked_nokeys interface = record { link = 1; other = 2; short = 3; header = 4; fragment = 5; length = 6; side = 7; local = 80; interface = interface }

abbrev worked_key : ReportedKey
worked_key = record { key = codes "log \"\\"; sends = codes "a#1" ∷ codes "a#3" ∷ []; receives = codes "b#1" ∷ [] }

abbrev worked_with : ℕ → Option ℕ → List ReportedDrops → PassedSums → Reported
worked_with interface alone dropped passed = record {
  alone = alone;
  events = 4294967295;
  messages = 10;
  unmatched = 0;
  consistent = false;
  dropped = dropped;
  nokeys = worked_nokeys interface;
  passed = passed;
  groups = worked_key ∷ [];
}

abbrev worked : Option ℕ → List ReportedDrops → PassedSums → Reported
worked = worked_with 0

worked-line : report_line (worked None [] (record { simple = 0; obsolete = 0; other = 0 })) ≡
    codes "{\"ambiguous\":[{\"key\":\"log \\\"\\\\\",\"receives\":[\"b#1\"],\"sends\":[\"a#1\",\"a#3\"]}],\"consistent\":false,\"events\":4294967295,\"messages\":10,\"nokey\":{\"fragment\":5,\"header\":4,\"length\":6,\"link\":1,\"local\":80,\"other\":2,\"short\":3,\"side\":7},\"unmatched\":0}\n"
unfolding serde_json_on_literals digits
worked-line = refl

worked-passed : report_line (worked None [] (record { simple = 2; obsolete = 30; other = 0 })) ≡
    codes "{\"ambiguous\":[{\"key\":\"log \\\"\\\\\",\"receives\":[\"b#1\"],\"sends\":[\"a#1\",\"a#3\"]}],\"consistent\":false,\"events\":4294967295,\"messages\":10,\"nokey\":{\"fragment\":5,\"header\":4,\"length\":6,\"link\":1,\"local\":80,\"other\":2,\"short\":3,\"side\":7},\"passed\":{\"obsolete\":30,\"other\":0,\"simple\":2},\"unmatched\":0}\n"
unfolding serde_json_on_literals digits
worked-passed = refl

worked-dropped : report_line (worked None (record { label = codes "a"; dropped = record { interface = 5; system = 0 } } ∷ []) (record { simple = 0; obsolete = 0; other = 0 })) ≡
    codes "{\"ambiguous\":[{\"key\":\"log \\\"\\\\\",\"receives\":[\"b#1\"],\"sends\":[\"a#1\",\"a#3\"]}],\"consistent\":false,\"dropped\":[{\"interface\":5,\"label\":\"a\",\"system\":0}],\"events\":4294967295,\"messages\":10,\"nokey\":{\"fragment\":5,\"header\":4,\"length\":6,\"link\":1,\"local\":80,\"other\":2,\"short\":3,\"side\":7},\"unmatched\":0}\n"
unfolding serde_json_on_literals digits
worked-dropped = refl

worked-alone : report_line (worked (Some 3) [] (record { simple = 0; obsolete = 0; other = 0 })) ≡
    codes "{\"alone\":3,\"ambiguous\":[{\"key\":\"log \\\"\\\\\",\"receives\":[\"b#1\"],\"sends\":[\"a#1\",\"a#3\"]}],\"consistent\":false,\"events\":4294967295,\"messages\":10,\"nokey\":{\"fragment\":5,\"header\":4,\"length\":6,\"link\":1,\"local\":80,\"other\":2,\"short\":3,\"side\":7},\"unmatched\":0}\n"
unfolding serde_json_on_literals digits
worked-alone = refl

worked-interface : report_line (worked_with 9 None [] (record { simple = 0; obsolete = 0; other = 0 })) ≡
    codes "{\"ambiguous\":[{\"key\":\"log \\\"\\\\\",\"receives\":[\"b#1\"],\"sends\":[\"a#1\",\"a#3\"]}],\"consistent\":false,\"events\":4294967295,\"messages\":10,\"nokey\":{\"fragment\":5,\"header\":4,\"interface\":9,\"length\":6,\"link\":1,\"local\":80,\"other\":2,\"short\":3,\"side\":7},\"unmatched\":0}\n"
unfolding serde_json_on_literals digits
worked-interface = refl
