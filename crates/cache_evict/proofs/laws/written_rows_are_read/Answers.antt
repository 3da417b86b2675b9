use Rattle.cache_evict.specs.declared.tracker.loading.Again.TheVariants.{PassedOver, MovedFirst}
use Rattle.cache_evict.proofs.InverseLaws.{put_again}
use Rattle.cache_evict.proofs.laws.written_rows_are_read.Goals as goal

pub returns-clause-appended : goal.returns-clause-appended
returns-clause-appended c = put_again PassedOver

pub returns-clause-restored : goal.returns-clause-restored
returns-clause-restored c = put_again MovedFirst
