mod Strangers
