-- The verifier's answer as a flat struct.
use Rattle.std.specs.Prelude.{[]}
use Rattle.primitives.specs.declared.Outpoint.{Outpoint}
use Rattle.links.specs.Verify.{Said, summary, stopped, Answer}
use Rattle.capi.specs.Flat.{stop_flat}
use Rattle.capi.specs.declared.linkage.LinksAnswer.{LinksAnswer}

-- the position is always 0: "A refused read, sheets apart, also returns the position"
abbrev pub said_flat : Said → Outpoint → Outpoint → LinksAnswer
said_flat (summary inputs outputs names) expected actual =
    record {
      stop = stop_flat 0 [] 0;
      side = 0;
      inputs_checked = inputs;
      linked_outputs = outputs;
      name_inputs = names;
      expected = expected;
      actual = actual;
    }
said_flat (stopped k vs side) expected actual =
    record {
      stop = stop_flat k vs 0;
      side = side;
      inputs_checked = 0;
      linked_outputs = 0;
      name_inputs = 0;
      expected = expected;
      actual = actual;
    }

abbrev pub links_flat : Answer → LinksAnswer
links_flat answer = said_flat answer.said answer.expected answer.actual
