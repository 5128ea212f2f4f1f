use Rattle.cdi_stack_room.proofs.+touch_pages.Given as goal

abbrev pub decreases-touch_pages : goal.decreases-touch_pages
decreases-touch_pages l = l.calls
