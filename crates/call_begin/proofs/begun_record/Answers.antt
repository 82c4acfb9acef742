-- `call_begin::begun_record` meets its contract: a begun search laid out is the fresh record with its set pending.
use Rattle.base_laws.specs.Lists.{padded}
use Rattle.rule_search.specs.State.{state}
use Rattle.rule_search.specs.Frames.{begun}
use Rattle.rule_calls.specs.Areas.{record_of, number_of}
use Rattle.base_model.specs.Records.{fresh_record}
use Rattle.call_begin.proofs.begun_record.Goals as goal

pub returns : goal.returns
unfolding fresh_record record_of number_of begun state padded
returns c = c.fresh_record.ensures
