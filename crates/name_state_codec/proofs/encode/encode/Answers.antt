use native.Mathlib.Omega.{arith}
use Rattle.refusal.proofs.Outcomes.{told, raised}
use Rattle.refusal.specs.Paper.{put_paper}
use Rattle.name_state.proofs.Text.{text-long}
use Rattle.name_state_codec.proofs.Checks.{passes, encode-no-room, encode-done, encode-refused}
use Rattle.name_state_codec.proofs.encode.encode.Goals as goal

pub returns-in_err-n : goal.returns-in_err-n
returns-in_err-n c = rw (raised c.from_residual.ensures) (encode-refused _ _ (told put_paper c.encoded_size.ensures c.in_err-n.was))

pub returns-then-dest-n : goal.returns-then-dest-n
returns-then-dest-n c = encode-no-room _ _ (told put_paper c.encoded_size.ensures c.in_ok-n.was) c.if-dest-n.true

pub put_record-requires : goal.put_record-requires
put_record-requires c =
    let a = c.args.state in
    let p = passes _ (told put_paper c.encoded_size.ensures c.in_ok-n.was) in
    (omega (arith, text-long a.name_length a.name, p.name), omega (arith, text-long a.resource_length a.resource_data, p.resource), omega (arith, p.size, c.if-dest-n.false))

pub returns : goal.returns
returns c = encode-done _ _ (told put_paper c.encoded_size.ensures c.in_ok-n.was) c.if-dest-n.false c.put_record.ensures
