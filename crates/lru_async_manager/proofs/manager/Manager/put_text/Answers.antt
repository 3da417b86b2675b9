use Rattle.lru_async_manager.proofs.ReadingLaws.{read-whole}
use Rattle.lru_async_manager.proofs.manager.Manager.put_text.Goals as goal

pub returns-in-Ok : goal.returns-in-Ok
returns-in-Ok g c = read-whole c.args.bytes.now c.put_rows.result c.in-Ok.ensures.ok c.put_rows.ensures
